-- What the calls of a store answer.
use Rattle.std.specs.Prelude.{◌≡◌, ℕ, cond, List, [], ◌∷◌, length, take, drop, Some, None, Option, Ok, Err, Result, nat_lt, codes}
use Rattle.store.specs.Reports.{Report, body_limit}
use Rattle.store.specs.declared.answers.PutRefusal.{PutRefusal}
use Rattle.store.specs.declared.answers.PutRefusal.TheVariants.{Full, Stale, Unfit}
use Rattle.store.specs.declared.answers.Copied.{Copied}

-- the number of each answer of a put
abbrev pub answer_number : Result Unit PutRefusal → ℕ
answer_number (Ok taken) = 0
answer_number (Err Full) = 1
answer_number (Err Stale) = 2
answer_number (Err Unfit) = 3

-- the text of each refusal
abbrev pub refusal_text : PutRefusal → List ℕ
refusal_text Full = codes "the store is at capacity"
refusal_text Stale = codes "the number is not above the newest that is held"
refusal_text Unfit = codes "the number is 0 or the body is too long"

-- what a read into a buffer of `room` bytes answers: nothing where the store is empty or the buffer is below the body limit
abbrev pub read_answer : List Report → ℕ → Option Copied
read_answer [] room = None
read_answer (r ∷ rs) room =
    cond (nat_lt room body_limit) None (Some (record { number = r.number; stream = r.stream; function = r.function; length = length r.body }))

-- the bytes that it copies to the front of the buffer
abbrev pub read_body : List Report → ℕ → List ℕ
read_body [] room = []
read_body (r ∷ rs) room = cond (nat_lt room body_limit) [] r.body

-- a read of a list of reports: its answer, and what it makes of the buffer, the body at the front and the later bytes as they were
pub record Reads (held : List Report) (told : Option Copied) (before after : List ℕ) : Type 0 where
  pub answer : told ≡ read_answer held (length before)
  pub body : take (length (read_body held (length before))) after ≡ read_body held (length before)
  pub later : drop (length (read_body held (length before))) after ≡ drop (length (read_body held (length before))) before
