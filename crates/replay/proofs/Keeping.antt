-- Puts and removals keep a list rising and within its capacity.
use Rattle.std.proofs.Common.{◌≡◌, ℕ, ◌+◌, ◌<◌, ◌≤◌, Bool, true, false, cond, ◌||◌, eqb, ltb, leb, List, [], ◌∷◌, ◌++◌, length, take, drop, Option, sym, refl, ap, ◌∙◌, subst, arith}
use Rattle.std.proofs.lemmas.List.{length-append}
use Rattle.std.proofs.lemmas.Bool.{cond-false, eqb-false, le-ltb, leb-false}
use Rattle.store.specs.Answers.{Reads, read_answer, read_body}
use Rattle.store.specs.Lent.{report_of}
use Rattle.store.specs.Reports.{Report, after_put, after_remove, newest_number, unfit}
use Rattle.store.specs.declared.answers.Copied.{Copied}
use Rattle.replay.specs.declared.steps.Step.{Step}
use Rattle.replay.specs.declared.steps.Step.TheVariants.{Put, Remove}
use Rattle.replay.specs.Runs.{ReadBack, Rising, after_step, after_steps}

record Sound (capacity : ℕ) (held : List Report) : Type 0 where
  rising : Rising 0 held
  within : length held ≤ capacity

rising_push : (low : ℕ) (held : List Report) (r : Report) → Rising low held → low < r.number → newest_number held < r.number → Rising low (held ++ (r ∷ []))
rising_push low [] r h a b = (a, tt)
rising_push low (x ∷ []) r h a b = (h.0, (b, tt))
rising_push low (x ∷ (y ∷ ys)) r h a b = (h.0, rising_push x.number (y ∷ ys) r h.1 (below y ys h.1 b) b)
  where
    below : (y : Report) (ys : List Report) → Rising x.number (y ∷ ys) → newest_number (y ∷ ys) < r.number → x.number < r.number
    below y [] h b = omega (arith, h.0)
    below y (z ∷ zs) h b = let k = below z zs (omega (arith, h.0, h.1.0), h.1.1) b in k

rising_lower : (low low' : ℕ) (held : List Report) → low' ≤ low → Rising low held → Rising low' held
rising_lower low low' [] h r = tt
rising_lower low low' (x ∷ xs) h r = (omega (arith, r.0), r.1)

not_zero : (a b : Bool) → (a || b) ≡ false → a ≡ false
not_zero true b e = e
not_zero false b e = refl

put_sound : (capacity : ℕ) (held : List Report) (r : Report) → Sound capacity held → Sound capacity (after_put held capacity r)
put_sound capacity held r s = go (unfit r) (leb r.number (newest_number held)) (leb capacity (length held)) refl refl refl
  where
    go : (a b c : Bool) → unfit r ≡ a → leb r.number (newest_number held) ≡ b → leb capacity (length held) ≡ c → Sound capacity (cond (eqb (cond a 3 (cond b 2 (cond c 1 0))) 0) (held ++ (r ∷ [])) held)
    go true b c ea eb ec = s
    go false true c ea eb ec = s
    go false false true ea eb ec = s
    go false false false ea eb ec =
        let nz = eqb-false r.number 0 (not_zero _ _ ea) in
        let newer : newest_number held < r.number = leb-false r.number (newest_number held) eb in
        let room : length held < capacity = leb-false capacity (length held) ec in
        record {
          rising = rising_push 0 held r s.rising (omega arith) newer;
          within = omega (arith, length-append held (r ∷ []));
        }

remove_sound : (capacity : ℕ) (held : List Report) → Sound capacity held → Sound capacity (after_remove held)
remove_sound capacity [] s = s
remove_sound capacity (r ∷ rs) s = record { rising = rising_lower r.number 0 rs (omega arith) s.rising.1; within = omega (arith, s.within) }

step_sound : (capacity : ℕ) (x : Step) (held : List Report) → Sound capacity held → Sound capacity (after_step capacity x held)
step_sound capacity (Put report) held s = put_sound capacity held (report_of report) s
step_sound capacity Remove held s = remove_sound capacity held s

steps_sound : (capacity : ℕ) (xs : List Step) (held : List Report) → Sound capacity held → Sound capacity (after_steps capacity xs held)
steps_sound capacity [] held s = s
steps_sound capacity (x ∷ xs) held s = steps_sound capacity xs (after_step capacity x held) (step_sound capacity x held s)

pub from_empty : (capacity : ℕ) (xs : List Step) (before after : List Report) → after ≡ after_steps capacity xs before → before ≡ [] → Rising 0 after × (length after ≤ capacity)
from_empty capacity xs before after e b =
    let s = steps_sound capacity xs [] (record { rising = tt; within = omega arith }) in
    let f : after ≡ after_steps capacity xs [] = e ∙ ap (after_steps capacity xs) b in
    (subst (Rising 0) (sym f) s.rising, subst (λ (l : List Report). length l ≤ capacity) (sym f) s.within)

-- one step more at the end
pub steps_push : (capacity : ℕ) (xs : List Step) (x : Step) (held : List Report) → after_steps capacity (xs ++ (x ∷ [])) held ≡ after_step capacity x (after_steps capacity xs held)
steps_push capacity [] x held = refl
steps_push capacity (y ∷ ys) x held = steps_push capacity ys x (after_step capacity y held)

-- a list whose newest report is a given one
pub record EndsWith (r : Report) (held : List Report) : Type 0 where
  pub before : List Report
  pub is : held ≡ before ++ (r ∷ [])

pub removed_ends : (r : Report) (held after : List Report) → EndsWith r held → 1 < length held → after ≡ after_remove held → EndsWith r after
removed_ends r held after p l e = go p.before p.is
  where
    go : (b : List Report) → held ≡ b ++ (r ∷ []) → EndsWith r after
    go [] q = absurd (short (ap length q))
      where
        short : length held ≡ 1 → ⊥
        short k = omega arith
    go (x ∷ xs) q = record { before = xs; is = e ∙ ap after_remove q }

pub only_left : (r : Report) (held : List Report) → EndsWith r held → length held ≤ 1 → held ≡ r ∷ []
only_left r held p l = go p.before p.is
  where
    go : (b : List Report) → held ≡ b ++ (r ∷ []) → held ≡ r ∷ []
    go [] q = q
    go (x ∷ xs) q = absurd (long (ap length q ∙ ap (λ (n : ℕ). n) (length-append (x ∷ xs) (r ∷ []))))
      where
        long : length held ≡ length (x ∷ xs) + 1 → ⊥
        long k = omega arith

pub read_back : (r : Report) (held : List Report) (told : Option Copied) (xs ys : List ℕ) → held ≡ r ∷ [] → 480 ≤ length xs → Reads held told xs ys → ReadBack r told xs ys held
read_back r held told xs ys o n p =
    let full : ltb (length xs) 480 ≡ false = le-ltb (length xs) 480 n in
    let body : read_body held (length xs) ≡ r.body = ap (λ (l : List Report). read_body l (length xs)) o ∙ cond-false _ [] r.body full in
    record {
      answer = p.answer ∙ (ap (λ (l : List Report). read_answer l (length xs)) o ∙ cond-false _ _ _ full);
      front = subst (λ (k : List ℕ). take (length k) ys ≡ k) body p.body;
      later = subst (λ (k : List ℕ). drop (length k) ys ≡ drop (length k) xs) body p.later;
      only = o;
    }
