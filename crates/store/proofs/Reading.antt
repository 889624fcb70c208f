-- What a read tells.
use Rattle.std.proofs.Common.{◌≡◌, ℕ, ◌≤◌, Bool, true, false, cond, ltb, List, [], ◌∷◌, length, take, Some, None, Option, refl, ap, ◌∙◌, arith}
use Rattle.std.proofs.lemmas.List.{length-take}
use Rattle.std.proofs.lemmas.Bool.{le-ltb}
use Rattle.store.specs.Reports.{Report}
use Rattle.store.specs.Answers.{Reads, read_answer, read_body}
use Rattle.store.specs.declared.answers.Copied.{Copied}

-- a read that answers has read the oldest report, whose body stands at the front of the buffer
pub record Read (held : List Report) (c : Copied) (ys : List ℕ) : Type 0 where
  pub oldest : Report
  pub newer : List Report
  pub list : held ≡ oldest ∷ newer
  pub number : c.number ≡ oldest.number
  pub stream : c.stream ≡ oldest.stream
  pub function : c.function ≡ oldest.function
  pub body : take c.length ys ≡ oldest.body
  pub within : c.length ≤ length ys

head_read : (b : Bool) (r : Report) (rs : List Report) (c : Copied) (ys : List ℕ)
    → Some c ≡ cond b None (Some (record { number = r.number; stream = r.stream; function = r.function; length = length r.body }))
    → take (length (cond b [] r.body)) ys ≡ cond b [] r.body → Read (r ∷ rs) c ys
head_read true r rs c ys e f = let z : ◌≡◌ {A = ℕ} 0 1 = cc in absurd (omega arith)
head_read false r rs c ys e f =
    let l : c.length ≡ length r.body = cc in
    record {
      oldest = r;
      newer = rs;
      list = refl;
      number = cc;
      stream = cc;
      function = cc;
      body = ap (λ n. take n ys) l ∙ f;
      within = omega (arith, l, ap length f, length-take (length r.body) ys);
    }

pub read_some : (held : List Report) (n : ℕ) (c : Copied) (ys : List ℕ) → Some c ≡ read_answer held n → take (length (read_body held n)) ys ≡ read_body held n → Read held c ys
read_some [] n c ys e f = let z : ◌≡◌ {A = ℕ} 0 1 = cc in absurd (omega arith)
read_some (r ∷ rs) n c ys e f = head_read (ltb n 480) r rs c ys e f

none_full : (b : Bool) (c : Copied) → b ≡ false → None ≡ cond b None (Some c) → ⊥
none_full true c f e = let z : ◌≡◌ {A = ℕ} 0 1 = cc in omega arith
none_full false c f e = let z : ◌≡◌ {A = ℕ} 0 1 = cc in omega arith

-- a read into 480 bytes or more that answers nothing found an empty store
pub read_none : (held : List Report) (n : ℕ) → 480 ≤ n → None ≡ read_answer held n → held ≡ []
read_none [] n h e = refl
read_none (r ∷ rs) n h e = absurd (none_full (ltb n 480) (record { number = r.number; stream = r.stream; function = r.function; length = length r.body }) (le-ltb n 480 h) e)

-- a read looks at the first report only
pub read_longer : (r : Report) (rs : List Report) (told : Option Copied) (before after : List ℕ) → Reads (r ∷ []) told before after → Reads (r ∷ rs) told before after
read_longer r rs told before after p = record { answer = p.answer; body = p.body; later = p.later }
