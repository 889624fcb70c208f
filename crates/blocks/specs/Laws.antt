-- What holds of every block and every list of blocks.
use Rattle.std.specs.Prelude.{◌≡◌, ℕ, ◌^◌, ◌<◌, true, false, List, [], ◌∷◌, length, slice_index}
use Rattle.store.specs.Reports.{Report, unfit}
use Rattle.blocks.specs.Layout.{written, report_in, block_of}
use Rattle.blocks.specs.Blocks.{by_number, intact, distinct}

-- the block of a report that can be put passes for written, and the report reads back from it
abbrev pub ReadsBack : Type 0
ReadsBack = (r : Report) → unfit r ≡ false → r.number < 2 ^ 32 → (written (block_of r) ≡ true) × (report_in (block_of r) ≡ r)

-- 512 bytes that pass for written are the block of a report that can be put, of the one that is read from them
abbrev pub WrittenOnly : Type 0
WrittenOnly =
    (b : List ℕ) → length b ≡ 512 → ((i : ℕ) → slice_index b i < 256) → written b ≡ true
    → (unfit (report_in b) ≡ false) × (block_of (report_in b) ≡ b)

-- each number is above the one before it
abbrev pub Rising : List Report → Type 0
Rising [] = Unit {0}
Rising (r ∷ []) = Unit {0}
Rising (r ∷ (s ∷ rs)) = (r.number < s.number) × Rising (s ∷ rs)

-- the reports of intact blocks with distinct numbers rise in their numbers
abbrev pub ByNumber : Type 0
ByNumber = (bs : List (List ℕ)) → intact bs ≡ true → distinct bs ≡ true → Rising (by_number bs)
