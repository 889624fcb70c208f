-- A report is made and goes its way.
use Rattle.std.proofs.Common.{◌≡◌, ℕ, ◌+◌, ◌<◌, ◌≤◌, Bool, true, false, cond, eqb, ◌⊎◌, List, [], ◌∷◌, ◌++◌, length, sym, refl, ap, ◌∙◌, subst, subst₂, inl, inr, arith}
use Rattle.std.proofs.lemmas.List.{append_assoc, append-nil, length_push}
use Rattle.std.proofs.lemmas.Bool.{cases_lt, cond-false, cond-true, eq-eqb, false≢true, ne_eqb}
use Rattle.lines.specs.declared.line.Letter.TheVariants.{Dropped, Made}
use Rattle.lines.specs.declared.line.Line.{Line}
use Rattle.spooling.specs.Entering.{directed, enqueued, made, routed}
use Rattle.spooling.specs.Holdings.{Holding, Shelf, add_line, with_queue}
use Rattle.states.specs.Controls.{is_online}
use Rattle.states.specs.declared.link.Link.TheVariants.{Disabled}
use Rattle.store.specs.Reports.{Report, after_put, newest_number, put_number}
use Rattle.moves.specs.Books.{Book, Whole, said}
use Rattle.moves.specs.Moves.{Way, disabled, full, makes, spools, waits}
use Rattle.moves.specs.Numbers.{is_acknowledged, numbers, numbers_of}
use Rattle.moves.proofs.Accounts.{line, made_one, one_dropped}
use Rattle.moves.proofs.Ascents.{Asc, numbers_append}
use Rattle.moves.proofs.Directing.{AccountsOf, Directed, directed_way, on_page, said_is}
use Rattle.moves.proofs.Puts.{newest_below, open_queued, put_adds, put_full, put_taken}
use Rattle.moves.proofs.Sounds.{Kept, Sound, one}

-- a book after a report was made
abbrev pub entered : Holding → Book → Book
entered h b = record { held = h; reports = b.reports + 1; link = b.link; control = b.control }

module _ (o : Bool) (past base : List Line) (k : ℕ) (a : Bool) (b : Book) (s : Sound past base k a b) (room : k ≤ 28)
    (online : is_online b.control ≡ true) (r : Report) (next : r.number ≡ b.reports + 1) (w : Whole r) where
  abbrev H : Holding
  H = said Made r.number b.held

  abbrev K : Holding → Type 0
  K h = Kept o past base (k + 2) a b (entered h b)

  -- the accounts with the report in hand
  in_hand : AccountsOf past base (b.reports + 1) a (b.held.queue.records ++ (r ∷ [])) H
  in_hand = on_page past base b.held.lines Made r.number (made_one r next w s.standing.accounts)

  lines_more : length H.lines ≡ length b.held.lines + 1
  lines_more = length_push b.held.lines (line Made r.number)

  -- D, for whatever reason
  gone : Way b.link o r H (said Dropped r.number H) → K (add_line Dropped r.number H)
  gone way =
      subst K (sym (said_is Dropped r.number H (omega (arith, s.standing.short, lines_more))))
      (record {
        moves = one (makes r online next w way);
        sound = record {
          standing = record {
            accounts = subst (λ (q : List Report). AccountsOf past base (b.reports + 1) a q (said Dropped r.number H)) (append-nil b.held.queue.records)
                (on_page past base H.lines Dropped r.number (one_dropped b.held.queue.records r [] in_hand));
            is = s.standing.is;
            short = omega (arith, s.standing.short, lines_more, length_push H.lines (line Dropped r.number));
            fits = s.standing.fits;
            small = s.standing.small;
            low = omega (arith, s.standing.low);
          };
          busy = s.busy;
          oldest = s.oldest;
        };
      })

  newest : newest_number b.held.queue.records < r.number
  newest =
      newest_below (numbers_of is_acknowledged (past ++ H.lines) ++ numbers b.held.spool.records) b.held.queue.records r [] (b.reports + 1)
      (subst (λ (ns : List ℕ). Asc 0 ns (b.reports + 1))
      (ap (λ (ns : List ℕ). numbers_of is_acknowledged (past ++ H.lines) ++ ns) (numbers_append b.held.spool.records (b.held.queue.records ++ (r ∷ [])))
      ∙ sym (append_assoc (numbers_of is_acknowledged (past ++ H.lines)) (numbers b.held.spool.records) (numbers (b.held.queue.records ++ (r ∷ [])))))
      in_hand.asc)

  module _ (up : b.link ≡ Disabled → ⊥) where
    queued : b.held.spooling.active ≡ false → K (enqueued r H)
    queued f = go (cases_lt (length b.held.queue.records) b.held.queue.limit)
      where
        go : (length b.held.queue.records < b.held.queue.limit) ⊎ (b.held.queue.limit ≤ length b.held.queue.records) → K (enqueued r H)
        go (inl l) =
            let z = put_taken b.held.queue.records b.held.queue.limit r (omega arith) w newest l in
            subst K (sym (cond-true (eqb (put_number b.held.queue.records b.held.queue.limit r) 0) _ (add_line Dropped r.number H) (eq-eqb _ 0 z) ∙ ap (λ (q : List Report). with_queue q H) (put_adds b.held.queue.records b.held.queue.limit r z)))
            (record {
              moves = one (makes r online next w (waits up f z));
              sound = record {
                standing = record {
                  accounts = in_hand;
                  is = s.standing.is;
                  short = omega (arith, s.standing.short, lines_more, length_push b.held.queue.records r);
                  fits = omega (arith, length_push b.held.queue.records r);
                  small = s.standing.small;
                  low = omega (arith, s.standing.low);
                };
                busy = λ t. absurd (false≢true (sym f ∙ (s.standing.is ∙ t)));
                oldest = open_queued b.held.pending b.held.queue.records b.held.spool.records b.held.spooling.unload r s.oldest;
              };
            })
        go (inr l) =
            let z = put_full b.held.queue.records b.held.queue.limit r (omega arith) w newest l in
            subst K (sym (cond-false (eqb (put_number b.held.queue.records b.held.queue.limit r) 0) (with_queue (after_put b.held.queue.records b.held.queue.limit r) H) (add_line Dropped r.number H) (ne_eqb _ 0 (λ e. omega arith))))
            (gone (full up f z))

    spooled : b.held.spooling.active ≡ true → K (directed o r H)
    spooled t =
        let e : b.held.queue.records ≡ [] = s.busy (sym s.standing.is ∙ t) in
        let y : a ≡ true = sym s.standing.is ∙ t in
        let x : AccountsOf past base (b.reports + 1) true (r ∷ []) H = subst (λ (c : Bool). AccountsOf past base (b.reports + 1) c (r ∷ []) H) y (subst (λ (q : List Report). AccountsOf past base (b.reports + 1) a (q ++ (r ∷ [])) H) e in_hand) in
        directed_kept e y (directed o r H) (directed_way past base (b.reports + 1) o r [] H x (omega (arith, s.standing.short, lines_more)) (omega (arith, s.standing.low)))
      where
        directed_kept : b.held.queue.records ≡ [] → a ≡ true → (h : Holding) → Directed past base (b.reports + 1) o r [] H h → K h
        directed_kept e y h d =
            let q : h.queue.records ≡ [] = ap (λ (z : Shelf). z.records) d.queue ∙ e in
            let l : h.queue.limit ≡ b.held.queue.limit = ap (λ (z : Shelf). z.limit) d.queue in
            let n : length h.queue.records ≡ 0 = ap length q in
            record {
              moves = one (makes r online next w (spools up t d.way));
              sound = record {
                standing = record {
                  accounts = subst₂ (λ (c : Bool) (z : List Report). AccountsOf past base (b.reports + 1) c z h) (sym y) (sym q) d.accounts;
                  is = d.active ∙ s.standing.is;
                  short = omega (arith, s.standing.short, lines_more, d.lines);
                  fits = omega arith;
                  small = omega (arith, s.standing.small);
                  low = omega (arith, s.standing.low);
                };
                busy = λ _. q;
                oldest = d.oldest s.oldest;
              };
            }

-- what holds of both ways holds of a choice
pub either : {A : Type 0} (P : A → Type 0) (b : Bool) (x y : A) → (b ≡ true → P x) → (b ≡ false → P y) → P (cond b x y)
either P true x y p q = p refl
either P false x y p q = q refl

-- a report is made
pub made_kept : (o : Bool) (past base : List Line) (k : ℕ) (a : Bool) (b : Book) → Sound past base k a b → k ≤ 28 → is_online b.control ≡ true → (r : Report) → r.number ≡ b.reports + 1 → Whole r
    → (d : Bool) → (d ≡ true → b.link ≡ Disabled) → (d ≡ false → b.link ≡ Disabled → ⊥) → Kept o past base (k + 2) a b (entered (made d o r b.held) b)
unfolding routed
made_kept o past base k a b s room online r next w d off up =
    subst (λ (h : Holding). Kept o past base (k + 2) a b (entered (routed d o r h) b)) (sym (said_is Made r.number b.held (omega (arith, s.standing.short))))
    (either (λ (h : Holding). Kept o past base (k + 2) a b (entered h b)) d _ _
    (λ e. gone o past base k a b s room online r next w (disabled (off e)))
    (λ e. either (λ (h : Holding). Kept o past base (k + 2) a b (entered h b)) b.held.spooling.active _ _
    (spooled o past base k a b s room online r next w (up e))
    (queued o past base k a b s room online r next w (up e))))
