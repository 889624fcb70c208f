-- How a report lies in a block of 512 bytes; numbers with the highest byte first.
use Rattle.std.specs.Prelude.{ℕ, ◌+◌, ◌-◌, ◌%◌, Bool, not, ◌&&◌, List, ◌∷◌, ◌++◌, length, take, replicate, sum, ◌==◌, nat_le, slice_index}
use Rattle.std.specs.List.{between, list_all}
use Rattle.octets.specs.Big.{be2, be4, num2, num4}
use Rattle.store.specs.Reports.{Report, body_limit}

-- bytes 0 to 7: number, stream, function and body length
unfoldable pub head_of : ℕ → ℕ → ℕ → ℕ → List ℕ
head_of number stream function bodyLength = be4 number ++ (stream ∷ function ∷ be2 bodyLength)

-- bytes 0 to 509, over which the check is the sum: the head, the body, zeros
unfoldable pub checked_bytes : Report → List ℕ
checked_bytes r =
    (head_of r.number r.stream r.function (length r.body) ++ r.body) ++ replicate (502 - length r.body) 0

-- the 512 bytes of a report: the last two are the check
unfoldable pub block_of : Report → List ℕ
block_of r = checked_bytes r ++ be2 (sum (checked_bytes r) % 65536)

-- the bytes of a free block
abbrev pub free_block : List ℕ
free_block = replicate 512 0

-- every byte is 0
abbrev pub all_zero : List ℕ → Bool
all_zero xs = list_all (λ x. x == 0) xs

-- the number in a block; 0 in a free one
abbrev pub number_in : List ℕ → ℕ
number_in b = num4 b 0

-- the report that a used block holds
abbrev pub report_in : List ℕ → Report
report_in b = record { number = number_in b; stream = slice_index b 4; function = slice_index b 5; body = between 8 (8 + num2 b 6) b }

-- a block is one that a put writes: a number, a body within the limit, the right check, zeros after the body
abbrev pub written : List ℕ → Bool
written b =
    not (number_in b == 0)
    && (nat_le (num2 b 6) body_limit && (num2 b 510 == sum (take 510 b) % 65536 && all_zero (between (8 + num2 b 6) 510 b)))
