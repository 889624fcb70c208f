-- A report that is directed to the spool.
use Rattle.std.proofs.Common.{◌≡◌, ℕ, ◌+◌, ◌<◌, ◌≤◌, Bool, true, false, cond, not, ◌&&◌, ◌||◌, ltb, List, [], ◌∷◌, ◌++◌, length, None, sym, refl, ap, ◌∙◌, subst, subst₂, arith}
use Rattle.std.proofs.lemmas.List.{append_assoc, length_push}
use Rattle.std.proofs.lemmas.Bool.{cond-true, false≢true, leb-false, leb-true, lt-ltb, or_right}
use Rattle.lines.specs.declared.line.Letter.{Letter}
use Rattle.lines.specs.declared.line.Letter.TheVariants.{Overwritten, TurnedAway}
use Rattle.lines.specs.declared.line.Line.{Line}
use Rattle.spooling.specs.Entering.{closed_spool, directed, directing, one_more, overwritten, overwritten_at, settled, stored}
use Rattle.spooling.specs.Holdings.{Holding, add_line, at_capacity, with_spool}
use Rattle.store.specs.Reports.{Report, after_put, after_remove, oldest_number, put_number}
use Rattle.moves.specs.Books.{OldestOpen, counted, said}
use Rattle.moves.specs.Moves.{ToSpool, overwrites, stores, turns_away}
use Rattle.moves.specs.Numbers.{is_acknowledged, numbers_of}
use Rattle.moves.proofs.Accounts.{Accounts, all_one, asc_one, front_gone, line, plus, taken, turned}
use Rattle.moves.proofs.Puts.{newest_below, open_closed, open_spooled, put_adds, put_taken}

-- nothing is cut where there is room
pub said_is : (c : Letter) (n : ℕ) (h : Holding) → length h.lines < 32 → add_line c n h ≡ said c n h
said_is c n h l i =
    record { queue = h.queue; spool = h.spool; spooling = h.spooling; pending = h.pending; lines = cond-true (ltb (length h.lines) 32) (h.lines ++ (line c n ∷ [])) h.lines (lt-ltb (length h.lines) 32 l) i }

one_more_lem : (n : ℕ) → n + 1 ≤ 4294967295 → one_more n ≡ n + 1
one_more_lem n h = omega arith

counted_is : (h : Holding) → h.spooling.total + 1 ≤ 4294967295 → directing h ≡ counted h
counted_is h l i =
    record { queue = h.queue; spool = h.spool; spooling = record { active = h.spooling.active; full = h.spooling.full || at_capacity h.spool; unload = h.spooling.unload; total = one_more_lem h.spooling.total l i; acknowledged = h.spooling.acknowledged }; pending = h.pending; lines = h.lines }

-- the accounts of a holding, with the reports that wait
abbrev pub AccountsOf : List Line → List Line → ℕ → Bool → List Report → Holding → Type 0
AccountsOf past base reports active wait h =
    Accounts wait h.spool.records (past ++ h.lines) (base ++ h.lines) reports h.spooling.total h.spooling.acknowledged h.spool.limit active

-- the lines before this call, and those of it
pub on_page : {wait spool : List Report} {reports total acknowledged room : ℕ} {active : Bool} (past base lines : List Line) (c : Letter) (n : ℕ)
    → Accounts wait spool (plus (past ++ lines) c n) (plus (base ++ lines) c n) reports total acknowledged room active
    → Accounts wait spool (past ++ plus lines c n) (base ++ plus lines c n) reports total acknowledged room active
on_page {wait} {spool} {reports} {total} {acknowledged} {room} {active} past base lines c n a =
    subst₂ (λ (x y : List Line). Accounts wait spool x y reports total acknowledged room active) (append_assoc past lines (line c n ∷ [])) (append_assoc base lines (line c n ∷ [])) a

-- what directing a report leaves: its way, the accounts without it in hand, at most one line more, and the rest as it was
pub record Directed (past base : List Line) (reports : ℕ) (overwrite : Bool) (r : Report) (wait : List Report) (h h' : Holding) : Type 0 where
  pub way : ToSpool overwrite r h h'
  pub accounts : AccountsOf past base reports true wait h'
  pub lines : length h'.lines ≤ length h.lines + 1
  pub queue : h'.queue ≡ h.queue
  pub active : h'.spooling.active ≡ h.spooling.active
  pub oldest : OldestOpen h.pending h.queue.records h.spool.records h.spooling.unload → OldestOpen h'.pending h'.queue.records h'.spool.records h'.spooling.unload
  pub none : h.pending ≡ None → h'.pending ≡ None

module _ (past base : List Line) (reports : ℕ) (overwrite : Bool) (r : Report) (wait : List Report) (h : Holding)
    (a : AccountsOf past base reports true (r ∷ wait) h) (room : length h.lines < 32) where
  abbrev D : Holding → Type 0
  D h' = Directed past base reports overwrite r wait h h'

  turned_away : (h.spooling.full || at_capacity h.spool) ≡ true → overwrite ≡ false → D (add_line TurnedAway r.number (counted h))
  turned_away f o =
      subst D (sym (said_is TurnedAway r.number (counted h) room))
      (record {
        way = turns_away f o;
        accounts = on_page past base h.lines TurnedAway r.number (turned r a);
        lines = omega (arith, length_push h.lines (line TurnedAway r.number));
        queue = refl;
        active = refl;
        oldest = λ x. x;
        none = λ x. x;
      })

  put_in : at_capacity h.spool ≡ false → D (stored r (counted h))
  put_in c =
      let l : length h.spool.records < h.spool.limit = leb-false h.spool.limit (length h.spool.records) c in
      let z : put_number h.spool.records h.spool.limit r ≡ 0 = put_taken h.spool.records h.spool.limit r (asc_one (numbers_of is_acknowledged (past ++ h.lines)) h.spool.records r wait reports a.asc).0 (all_one h.spool.records r wait a.whole) (newest_below (numbers_of is_acknowledged (past ++ h.lines)) h.spool.records r wait reports a.asc) l in
      subst D (ap (λ (rs : List Report). with_spool rs (counted h)) (sym (put_adds h.spool.records h.spool.limit r z)))
      (record {
        way = stores c z;
        accounts = taken r refl l a;
        lines = omega arith;
        queue = refl;
        active = refl;
        oldest = λ x. open_spooled h.pending h.queue.records h.spool.records h.spooling.unload r x;
        none = λ x. x;
      })

  abbrev AccountsAt : List Report → Type 0
  AccountsAt spool = Accounts (r ∷ wait) spool (past ++ h.lines) (base ++ h.lines) reports h.spooling.total h.spooling.acknowledged h.spool.limit true

  put_over : overwrite ≡ true → at_capacity h.spool ≡ true → D (stored r (overwritten (counted h)))
  put_over o c = go h.spool.records refl
    where
      go : (xs : List Report) → h.spool.records ≡ xs → D (stored r (overwritten_at (oldest_number xs) (counted h)))
      go [] e = let k = leb-true h.spool.limit (length h.spool.records) c in let z = ap length e in absurd (none k z a.some)
        where
          none : h.spool.limit ≤ length h.spool.records → length h.spool.records ≡ 0 → 1 ≤ h.spool.limit → ⊥
          none k z s = omega arith
      go (x ∷ xs) e =
          let b : AccountsAt (x ∷ xs) = subst AccountsAt e a in
          let l : length xs < h.spool.limit = omega (arith, b.size) in
          let k = front_gone Overwritten x refl refl refl refl b in
          let z : put_number xs h.spool.limit r ≡ 0 = put_taken xs h.spool.limit r (asc_one (numbers_of is_acknowledged (plus (past ++ h.lines) Overwritten x.number)) xs r wait reports k.asc).0 (all_one xs r wait k.whole) (newest_below (numbers_of is_acknowledged (plus (past ++ h.lines) Overwritten x.number)) xs r wait reports k.asc) l in
          let p : after_put (after_remove h.spool.records) h.spool.limit r ≡ xs ++ (r ∷ []) = ap (λ (rs : List Report). after_put (after_remove rs) h.spool.limit r) e ∙ put_adds xs h.spool.limit r z in
          let q = cond-true (ltb (length h.lines) 32) (plus h.lines Overwritten x.number) h.lines (lt-ltb (length h.lines) 32 room) in
          subst D
          (sym (λ i. record { queue = h.queue; spool = record { records = p i; limit = h.spool.limit }; spooling = (counted h).spooling; pending = closed_spool h.pending; lines = q i }))
          (record {
            way = overwrites x xs o c e z;
            accounts = on_page past base h.lines Overwritten x.number (taken r refl l k);
            lines = omega (arith, length_push h.lines (line Overwritten x.number));
            queue = refl;
            active = refl;
            oldest = λ y. open_closed h.pending h.queue.records h.spool.records (xs ++ (r ∷ [])) h.spooling.unload y;
            none = λ y. ap closed_spool y;
          })

  pub settled_way : D (settled overwrite r (counted h))
  settled_way = go (h.spooling.full || at_capacity h.spool) overwrite (at_capacity h.spool) refl refl refl
    where
      go : (f o c : Bool) → (h.spooling.full || at_capacity h.spool) ≡ f → overwrite ≡ o → at_capacity h.spool ≡ c
          → D (cond (f && not o) (add_line TurnedAway r.number (counted h)) (stored r (cond c (overwritten (counted h)) (counted h))))
      go true false c ef eo ec = turned_away ef eo
      go true true true ef eo ec = put_over eo ec
      go true true false ef eo ec = put_in ec
      go false o true ef eo ec = absurd (false≢true (sym ef ∙ or_right h.spooling.full (at_capacity h.spool) ec))
      go false o false ef eo ec = put_in ec

  pub directed_way : reports ≤ 4294967200 → D (directed overwrite r h)
  unfolding directed
  directed_way low = subst D (ap (settled overwrite r) (sym (counted_is h (omega (arith, a.load))))) settled_way
