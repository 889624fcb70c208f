-- The list of reports that blocks hold, and what becomes of their bytes.
use Rattle.std.specs.Prelude.{ℕ, zero, suc, ◌*◌, ◌/◌, Bool, true, cond, not, ◌&&◌, ◌||◌, List, [], ◌∷◌, map, filter, length, take, drop, ◌==◌, nat_lt}
use Rattle.std.specs.List.{list_all, list_any, position_or_len}
use Rattle.octets.specs.Places.{placed}
use Rattle.store.specs.Reports.{Report, put_number}
use Rattle.blocks.specs.Layout.{all_zero, written, number_in, report_in, block_of, free_block}

-- the first n blocks of the bytes
unfoldable pub blocks_of : ℕ → List ℕ → List (List ℕ)
blocks_of zero bytes = []
blocks_of (suc n) bytes = take 512 bytes ∷ blocks_of n (drop 512 bytes)

-- a report put in its place among reports by rising number
unfoldable pub insert_report : Report → List Report → List Report
insert_report r [] = r ∷ []
insert_report r (s ∷ rs) = cond (nat_lt r.number s.number) (r ∷ s ∷ rs) (s ∷ insert_report r rs)

-- the reports of the used blocks, by rising number
unfoldable pub by_number : List (List ℕ) → List Report
by_number [] = []
by_number (b ∷ bs) = cond (all_zero b) (by_number bs) (insert_report (report_in b) (by_number bs))

-- the numbers of the used blocks
abbrev pub numbers : List (List ℕ) → List ℕ
numbers bs = filter (λ n. not (n == 0)) (map number_in bs)

-- every block is free or one that a put writes
unfoldable pub intact : List (List ℕ) → Bool
intact bs = list_all (λ b. all_zero b || written b) bs

-- some block has this number
unfoldable pub has_number : ℕ → List (List ℕ) → Bool
has_number n bs = list_any (λ b. number_in b == n) bs

-- no two used blocks share a number
unfoldable pub distinct : List (List ℕ) → Bool
distinct [] = true
distinct (b ∷ bs) = (all_zero b || not (has_number (number_in b) bs)) && distinct bs

-- how many reports the bytes have room for: as many as whole blocks, none if they are damaged
unfoldable pub capacity_of : List ℕ → ℕ
capacity_of bytes =
    cond (intact (blocks_of (length bytes / 512) bytes) && distinct (blocks_of (length bytes / 512) bytes)) (length bytes / 512) 0

-- the reports in the first n blocks of the bytes
unfoldable pub held_in : ℕ → List ℕ → List Report
held_in n bytes = by_number (blocks_of n bytes)

-- the place of the first free block; their count where none is free
unfoldable pub first_free : List (List ℕ) → ℕ
first_free bs = position_or_len all_zero bs

-- the bytes after a put: one that is taken writes the report's block over the first free one
unfoldable pub bytes_after_put : ℕ → List ℕ → Report → List ℕ
bytes_after_put n bytes r =
    cond (put_number (held_in n bytes) n r == 0) (placed bytes (first_free (blocks_of n bytes) * 512) (block_of r)) bytes

-- the place of the first block with this number; their count where no block has it
unfoldable pub place_of : ℕ → List (List ℕ) → ℕ
place_of n bs = position_or_len (λ b. number_in b == n) bs

-- the bytes with the block of the oldest of these reports free
unfoldable pub freed : ℕ → List ℕ → List Report → List ℕ
freed n bytes [] = bytes
freed n bytes (r ∷ rs) = placed bytes (place_of r.number (blocks_of n bytes) * 512) free_block

-- the bytes after a removal: the oldest report's block is free
abbrev pub bytes_after_remove : ℕ → List ℕ → List ℕ
bytes_after_remove n bytes = freed n bytes (held_in n bytes)
