-- The accounts of a ledger, and that each move of a report keeps them.
use Rattle.std.proofs.Common.{◌≡◌, ℕ, ◌+◌, ◌<◌, ◌≤◌, Bool, true, false, cond, ◌⊎◌, List, [], ◌∷◌, ◌++◌, length, sym, refl, ap, ◌∙◌, subst, ap₂, inl, inr, ⊎_elim, arith}
use Rattle.std.proofs.lemmas.List.{append_assoc, append-nil, length-append, length_push}
use Rattle.std.proofs.lemmas.Bool.{false≢true}
use Rattle.store.specs.Reports.{Report}
use Rattle.lines.specs.Letters.{is_end}
use Rattle.lines.specs.declared.line.Letter.{Letter}
use Rattle.lines.specs.declared.line.Letter.TheVariants.{Made, Acknowledged, SpoolAcknowledged, Dropped, TurnedAway}
use Rattle.lines.specs.declared.line.Line.{Line}
use Rattle.moves.specs.Books.{AllWhole, Whole}
use Rattle.moves.specs.Numbers.{In, is_acknowledged, is_made, is_spool_end, named, numbers, numbers_of, times, up_to}
use Rattle.moves.proofs.Ascents.{Asc, asc_less, asc_push, asc_within, named_push, numbers_append, numbers_push, times_append, up_to_more}

abbrev pub line : Letter → ℕ → Line
line c n = record { letter = c; number = n }

abbrev pub plus : List Line → Letter → ℕ → List Line
plus ls c n = ls ++ (line c n ∷ [])

-- `wait`: the reports of the queue and the one in hand, oldest first; `ledger`: all lines; `since`: those that SpoolCountTotal counts
pub record Accounts (wait spool : List Report) (ledger since : List Line) (reports total acknowledged room : ℕ) (active : Bool) : Type 0 where
  pub asc : Asc 0 (numbers_of is_acknowledged ledger ++ numbers (spool ++ wait)) reports
  pub whole : AllWhole (spool ++ wait)
  pub places : (n : ℕ) → times n (numbers wait) + times n (numbers spool) + times n (numbers_of is_end ledger) ≡ times n (numbers_of is_made ledger)
  pub made : numbers_of is_made ledger ≡ up_to reports
  pub known : (n : ℕ) → In n (named ledger) → (1 ≤ n) × (n ≤ reports)
  pub size : length spool ≤ room
  pub some : 1 ≤ room
  pub count : total ≡ length spool + length (numbers_of is_spool_end since)
  pub load : total + length wait ≤ reports
  pub done : acknowledged + length spool + length wait ≤ reports
  pub idle : active ≡ false → spool ≡ []

-- a line more, of a letter that counts or not
yes : (is : Letter → Bool) (ls : List Line) (c : Letter) (n : ℕ) → is c ≡ true → numbers_of is (plus ls c n) ≡ numbers_of is ls ++ (n ∷ [])
yes is ls c n e = numbers_push is ls (line c n) ∙ ap (λ (b : Bool). numbers_of is ls ++ cond b (n ∷ []) []) e

nope : (is : Letter → Bool) (ls : List Line) (c : Letter) (n : ℕ) → is c ≡ false → numbers_of is (plus ls c n) ≡ numbers_of is ls
nope is ls c n e = numbers_push is ls (line c n) ∙ ap (λ (b : Bool). numbers_of is ls ++ cond b (n ∷ []) []) e ∙ append-nil (numbers_of is ls)

times_yes : (is : Letter → Bool) (ls : List Line) (c : Letter) (m : ℕ) → is c ≡ true → (n : ℕ) → times n (numbers_of is (plus ls c m)) ≡ times n (numbers_of is ls) + times n (m ∷ [])
times_yes is ls c m e n = ap (times n) (yes is ls c m e) ∙ times_append n (numbers_of is ls) (m ∷ [])

length_yes : (is : Letter → Bool) (ls : List Line) (c : Letter) (m : ℕ) → is c ≡ true → length (numbers_of is (plus ls c m)) ≡ length (numbers_of is ls) + 1
length_yes is ls c m e = ap length (yes is ls c m e) ∙ length_push (numbers_of is ls) m

in_push : (n : ℕ) (ns : List ℕ) (m : ℕ) → In n (ns ++ (m ∷ [])) → In n ns ⊎ (n ≡ m)
in_push n [] m (inl e) = inr e
in_push n [] m (inr i) = absurd i
in_push n (x ∷ xs) m (inl e) = inl (inl e)
in_push n (x ∷ xs) m (inr i) = ⊎_elim (λ j. inl (inr j)) (λ e. inr e) (in_push n xs m i)

-- a line that names a number from 1 up to the count
known_more : (ls : List Line) (c : Letter) (m reports reports' : ℕ) → ((n : ℕ) → In n (named ls) → (1 ≤ n) × (n ≤ reports)) → reports ≤ reports' → 1 ≤ m → m ≤ reports'
    → (n : ℕ) → In n (named (plus ls c m)) → (1 ≤ n) × (n ≤ reports')
known_more ls c m reports reports' f l a b n i =
    ⊎_elim (λ j. ((f n j).0, omega (arith, (f n j).1))) (λ e. (omega arith, omega arith))
    (in_push n (named ls) m (subst (In n) (named_push ls (line c m)) i))

all_push : (xs : List Report) (r : Report) → AllWhole xs → Whole r → AllWhole (xs ++ (r ∷ []))
all_push [] r h w = (w, tt)
all_push (x ∷ xs) r h w = (h.0, all_push xs r h.1 w)

all_less : (xs : List Report) (r : Report) (ys : List Report) → AllWhole (xs ++ (r ∷ ys)) → AllWhole (xs ++ ys)
all_less [] r ys h = h.1
all_less (x ∷ xs) r ys h = (h.0, all_less xs r ys h.1)

pub all_one : (xs : List Report) (r : Report) (ys : List Report) → AllWhole (xs ++ (r ∷ ys)) → Whole r
all_one [] r ys h = h.0
all_one (x ∷ xs) r ys h = all_one xs r ys h.1

-- the numbers of what was acknowledged and of what is held, around one that is held
around : (acked : List ℕ) (xs : List Report) (r : Report) (ys : List Report) → acked ++ numbers (xs ++ (r ∷ ys)) ≡ (acked ++ numbers xs) ++ (r.number ∷ numbers ys)
around acked xs r ys = ap (λ (ns : List ℕ). acked ++ ns) (numbers_append xs (r ∷ ys)) ∙ sym (append_assoc acked (numbers xs) (r.number ∷ numbers ys))

without : (acked : List ℕ) (xs ys : List Report) → (acked ++ numbers xs) ++ numbers ys ≡ acked ++ numbers (xs ++ ys)
without acked xs ys = append_assoc acked (numbers xs) (numbers ys) ∙ ap (λ (ns : List ℕ). acked ++ ns) (sym (numbers_append xs ys))

asc_gone : (acked : List ℕ) (xs : List Report) (r : Report) (ys : List Report) (hi : ℕ) → Asc 0 (acked ++ numbers (xs ++ (r ∷ ys))) hi → Asc 0 (acked ++ numbers (xs ++ ys)) hi
asc_gone acked xs r ys hi h =
    subst (λ (ns : List ℕ). Asc 0 ns hi) (without acked xs ys)
    (asc_less 0 (acked ++ numbers xs) r.number (numbers ys) hi (subst (λ (ns : List ℕ). Asc 0 ns hi) (around acked xs r ys) h))

pub asc_one : (acked : List ℕ) (xs : List Report) (r : Report) (ys : List Report) (hi : ℕ) → Asc 0 (acked ++ numbers (xs ++ (r ∷ ys))) hi → (1 ≤ r.number) × (r.number ≤ hi)
asc_one acked xs r ys hi h =
    let k = asc_within 0 (acked ++ numbers xs) r.number (numbers ys) hi (subst (λ (ns : List ℕ). Asc 0 ns hi) (around acked xs r ys) h) in (k.0, k.1)

-- the acknowledged numbers are the same ones
asc_by : (held : List ℕ) (hi : ℕ) {acked acked' : List ℕ} → acked' ≡ acked → Asc 0 (acked ++ held) hi → Asc 0 (acked' ++ held) hi
asc_by held hi {acked} {acked'} e h = subst (λ (ns : List ℕ). Asc 0 (ns ++ held) hi) (sym e) h

module _ {wait spool : List Report} {ledger since : List Line} {reports total acknowledged room : ℕ} {active : Bool} where
  -- M: a report is made
  pub made_one : (r : Report) → r.number ≡ reports + 1 → Whole r → Accounts wait spool ledger since reports total acknowledged room active
      → Accounts (wait ++ (r ∷ [])) spool (plus ledger Made r.number) (plus since Made r.number) (reports + 1) total acknowledged room active
  made_one r e w a =
      record {
        asc = asc_by (numbers (spool ++ (wait ++ (r ∷ [])))) (reports + 1) (nope is_acknowledged ledger Made r.number refl)
            (subst (λ (ns : List ℕ). Asc 0 ns (reports + 1)) shape (asc_push 0 (numbers_of is_acknowledged ledger ++ numbers (spool ++ wait)) reports a.asc));
        whole = subst AllWhole (append_assoc spool wait (r ∷ [])) (all_push (spool ++ wait) r a.whole w);
        places = λ n. omega (arith, a.places n, ap (times n) (numbers_append wait (r ∷ [])), times_append n (numbers wait) (r.number ∷ []), ap (times n) (nope is_end ledger Made r.number refl), times_yes is_made ledger Made r.number refl n);
        made = yes is_made ledger Made r.number refl ∙ ap₂ (λ (ns : List ℕ) (m : ℕ). ns ++ (m ∷ [])) a.made e ∙ sym (up_to_more reports);
        known = known_more ledger Made r.number reports (reports + 1) a.known (omega arith) (omega arith) (omega arith);
        size = a.size;
        some = a.some;
        count = omega (arith, a.count, ap length (nope is_spool_end since Made r.number refl));
        load = omega (arith, a.load, length_push wait r);
        done = omega (arith, a.done, length_push wait r);
        idle = a.idle;
      }
    where
      shape : (numbers_of is_acknowledged ledger ++ numbers (spool ++ wait)) ++ ((reports + 1) ∷ []) ≡ numbers_of is_acknowledged ledger ++ numbers (spool ++ (wait ++ (r ∷ [])))
      shape =
          ap (λ (m : ℕ). (numbers_of is_acknowledged ledger ++ numbers (spool ++ wait)) ++ (m ∷ [])) (sym e)
          ∙ append_assoc (numbers_of is_acknowledged ledger) (numbers (spool ++ wait)) (r.number ∷ [])
          ∙ ap (λ (ns : List ℕ). numbers_of is_acknowledged ledger ++ ns) (sym (numbers_append (spool ++ wait) (r ∷ [])) ∙ ap numbers (append_assoc spool wait (r ∷ [])))

  -- O or P: the oldest report of the spool leaves it
  pub front_gone : (c : Letter) (o : Report) → is_made c ≡ false → is_end c ≡ true → is_spool_end c ≡ true → is_acknowledged c ≡ false
      → Accounts wait (o ∷ spool) ledger since reports total acknowledged room active
      → Accounts wait spool (plus ledger c o.number) (plus since c o.number) reports total acknowledged room active
  front_gone c o hm he hs ha a =
      let k = asc_one (numbers_of is_acknowledged ledger) [] o (spool ++ wait) reports a.asc in
      record {
        asc = asc_by (numbers (spool ++ wait)) reports (nope is_acknowledged ledger c o.number ha) (asc_gone (numbers_of is_acknowledged ledger) [] o (spool ++ wait) reports a.asc);
        whole = a.whole.1;
        places = λ n. omega (arith, a.places n, times_yes is_end ledger c o.number he n, ap (times n) (nope is_made ledger c o.number hm));
        made = nope is_made ledger c o.number hm ∙ a.made;
        known = known_more ledger c o.number reports reports a.known (omega arith) k.0 k.1;
        size = omega (arith, a.size);
        some = a.some;
        count = omega (arith, a.count, length_yes is_spool_end since c o.number hs);
        load = a.load;
        done = omega (arith, a.done);
        idle = λ f. let z : ◌≡◌ {A = ℕ} (length (o ∷ spool)) 0 = ap length (a.idle f) in absurd (omega arith);
      }

  -- T: the next report is turned away from the spool
  pub turned : (r : Report) → Accounts (r ∷ wait) spool ledger since reports total acknowledged room active
      → Accounts wait spool (plus ledger TurnedAway r.number) (plus since TurnedAway r.number) reports (total + 1) acknowledged room active
  turned r a =
      let k = asc_one (numbers_of is_acknowledged ledger) spool r wait reports a.asc in
      record {
        asc = asc_by (numbers (spool ++ wait)) reports (nope is_acknowledged ledger TurnedAway r.number refl) (asc_gone (numbers_of is_acknowledged ledger) spool r wait reports a.asc);
        whole = all_less spool r wait a.whole;
        places = λ n. omega (arith, a.places n, times_yes is_end ledger TurnedAway r.number refl n, ap (times n) (nope is_made ledger TurnedAway r.number refl));
        made = nope is_made ledger TurnedAway r.number refl ∙ a.made;
        known = known_more ledger TurnedAway r.number reports reports a.known (omega arith) k.0 k.1;
        size = a.size;
        some = a.some;
        count = omega (arith, a.count, length_yes is_spool_end since TurnedAway r.number refl);
        load = omega (arith, a.load);
        done = omega (arith, a.done);
        idle = a.idle;
      }

  -- the next report goes into the spool
  pub taken : (r : Report) → active ≡ true → length spool < room → Accounts (r ∷ wait) spool ledger since reports total acknowledged room active
      → Accounts wait (spool ++ (r ∷ [])) ledger since reports (total + 1) acknowledged room active
  taken r t l a =
      record {
        asc = subst (λ (rs : List Report). Asc 0 (numbers_of is_acknowledged ledger ++ numbers rs) reports) (sym (append_assoc spool (r ∷ []) wait)) a.asc;
        whole = subst AllWhole (sym (append_assoc spool (r ∷ []) wait)) a.whole;
        places = λ n. omega (arith, a.places n, ap (times n) (numbers_append spool (r ∷ [])), times_append n (numbers spool) (r.number ∷ []));
        made = a.made;
        known = a.known;
        size = omega (arith, length_push spool r);
        some = a.some;
        count = omega (arith, a.count, length_push spool r);
        load = omega (arith, a.load);
        done = omega (arith, a.done, length_push spool r);
        idle = λ f. absurd (false≢true (sym f ∙ t));
      }

  -- B: the oldest report of the spool is acknowledged
  pub spool_acknowledged : (o : Report) → Accounts wait (o ∷ spool) ledger since reports total acknowledged room active
      → Accounts wait spool (plus ledger SpoolAcknowledged o.number) (plus since SpoolAcknowledged o.number) reports total (acknowledged + 1) room active
  spool_acknowledged o a =
      let k = asc_one (numbers_of is_acknowledged ledger) [] o (spool ++ wait) reports a.asc in
      record {
        asc = subst (λ (ns : List ℕ). Asc 0 ns reports)
            (sym (append_assoc (numbers_of is_acknowledged ledger) (o.number ∷ []) (numbers (spool ++ wait))) ∙ ap (λ (ns : List ℕ). ns ++ numbers (spool ++ wait)) (sym (yes is_acknowledged ledger SpoolAcknowledged o.number refl)))
            a.asc;
        whole = a.whole.1;
        places = λ n. omega (arith, a.places n, times_yes is_end ledger SpoolAcknowledged o.number refl n, ap (times n) (nope is_made ledger SpoolAcknowledged o.number refl));
        made = nope is_made ledger SpoolAcknowledged o.number refl ∙ a.made;
        known = known_more ledger SpoolAcknowledged o.number reports reports a.known (omega arith) k.0 k.1;
        size = omega (arith, a.size);
        some = a.some;
        count = omega (arith, a.count, length_yes is_spool_end since SpoolAcknowledged o.number refl);
        load = a.load;
        done = omega (arith, a.done);
        idle = λ f. let z : ◌≡◌ {A = ℕ} (length (o ∷ spool)) 0 = ap length (a.idle f) in absurd (omega arith);
      }

  -- an INACTIVE spool becomes ACTIVE: its total begins at 0, and so do the lines that it counts
  pub activated : (since' : List Line) → length (numbers_of is_spool_end since') ≡ 0 → active ≡ false → Accounts wait spool ledger since reports total acknowledged room active
      → Accounts wait spool ledger since' reports 0 acknowledged room true
  activated since' z f a =
      let e = ap length (a.idle f) in
      record {
        asc = a.asc;
        whole = a.whole;
        places = a.places;
        made = a.made;
        known = a.known;
        size = a.size;
        some = a.some;
        count = omega arith;
        load = omega (arith, a.done);
        done = a.done;
        idle = λ u. absurd (false≢true (sym u));
      }

  -- another count of acknowledgements, not higher
  pub recounted : (n : ℕ) → n ≤ acknowledged → Accounts wait spool ledger since reports total acknowledged room active → Accounts wait spool ledger since reports total n room active
  recounted n l a =
      record {
        asc = a.asc;
        whole = a.whole;
        places = a.places;
        made = a.made;
        known = a.known;
        size = a.size;
        some = a.some;
        count = a.count;
        load = a.load;
        done = omega (arith, a.done);
        idle = a.idle;
      }

-- A: the oldest report of the queue is acknowledged; the spool is empty
pub queue_acknowledged : (r : Report) {wait : List Report} {ledger since : List Line} {reports total acknowledged room : ℕ} {active : Bool} → Accounts (r ∷ wait) [] ledger since reports total acknowledged room active
    → Accounts wait [] (plus ledger Acknowledged r.number) (plus since Acknowledged r.number) reports total acknowledged room active
queue_acknowledged r {wait} {ledger} {since} {reports} {total} {acknowledged} {room} {active} a =
    let k = asc_one (numbers_of is_acknowledged ledger) [] r wait reports a.asc in
    record {
      asc = subst (λ (ns : List ℕ). Asc 0 ns reports)
          (sym (append_assoc (numbers_of is_acknowledged ledger) (r.number ∷ []) (numbers wait)) ∙ ap (λ (ns : List ℕ). ns ++ numbers wait) (sym (yes is_acknowledged ledger Acknowledged r.number refl)))
          a.asc;
      whole = a.whole.1;
      places = λ n. omega (arith, a.places n, times_yes is_end ledger Acknowledged r.number refl n, ap (times n) (nope is_made ledger Acknowledged r.number refl));
      made = nope is_made ledger Acknowledged r.number refl ∙ a.made;
      known = known_more ledger Acknowledged r.number reports reports a.known (omega arith) k.0 k.1;
      size = a.size;
      some = a.some;
      count = omega (arith, a.count, ap length (nope is_spool_end since Acknowledged r.number refl));
      load = omega (arith, a.load);
      done = omega (arith, a.done);
      idle = λ f. refl;
    }

-- D: a report that waits is dropped
pub one_dropped : (xs : List Report) (r : Report) (ys : List Report) {spool : List Report} {ledger since : List Line} {reports total acknowledged room : ℕ} {active : Bool}
    → Accounts (xs ++ (r ∷ ys)) spool ledger since reports total acknowledged room active
    → Accounts (xs ++ ys) spool (plus ledger Dropped r.number) (plus since Dropped r.number) reports total acknowledged room active
one_dropped xs r ys {spool} {ledger} {since} {reports} {total} {acknowledged} {room} {active} a =
    let asc' : Asc 0 (numbers_of is_acknowledged ledger ++ numbers ((spool ++ xs) ++ (r ∷ ys))) reports = subst (λ (rs : List Report). Asc 0 (numbers_of is_acknowledged ledger ++ numbers rs) reports) (sym (append_assoc spool xs (r ∷ ys))) a.asc in
    let k = asc_one (numbers_of is_acknowledged ledger) (spool ++ xs) r ys reports asc' in
    record {
      asc = asc_by (numbers (spool ++ (xs ++ ys))) reports (nope is_acknowledged ledger Dropped r.number refl)
          (subst (λ (rs : List Report). Asc 0 (numbers_of is_acknowledged ledger ++ numbers rs) reports) (append_assoc spool xs ys) (asc_gone (numbers_of is_acknowledged ledger) (spool ++ xs) r ys reports asc'));
      whole = subst AllWhole (append_assoc spool xs ys) (all_less (spool ++ xs) r ys (subst AllWhole (sym (append_assoc spool xs (r ∷ ys))) a.whole));
      places = λ n. omega (arith, a.places n, ap (times n) (numbers_append xs (r ∷ ys)), times_append n (numbers xs) (r.number ∷ numbers ys), ap (times n) (numbers_append xs ys), times_append n (numbers xs) (numbers ys), times_yes is_end ledger Dropped r.number refl n, ap (times n) (nope is_made ledger Dropped r.number refl));
      made = nope is_made ledger Dropped r.number refl ∙ a.made;
      known = known_more ledger Dropped r.number reports reports a.known (omega arith) k.0 k.1;
      size = a.size;
      some = a.some;
      count = omega (arith, a.count, ap length (nope is_spool_end since Dropped r.number refl));
      load = omega (arith, a.load, length-append xs (r ∷ ys), length-append xs ys);
      done = omega (arith, a.done, length-append xs (r ∷ ys), length-append xs ys);
      idle = a.idle;
    }

-- an empty spool becomes INACTIVE
pub deactivated : {wait : List Report} {ledger since : List Line} {reports total acknowledged room : ℕ} {active : Bool}
    → Accounts wait [] ledger since reports total acknowledged room active → Accounts wait [] ledger since reports total acknowledged room false
deactivated a =
    record {
      asc = a.asc;
      whole = a.whole;
      places = a.places;
      made = a.made;
      known = a.known;
      size = a.size;
      some = a.some;
      count = a.count;
      load = a.load;
      done = a.done;
      idle = λ u. refl;
    }
