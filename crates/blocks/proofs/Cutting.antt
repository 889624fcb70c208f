-- Bytes cut into blocks.
use Rattle.std.proofs.Common.{◌≡◌, ℕ, zero, suc, ◌+◌, ◌*◌, ◌<◌, ◌≤◌, List, [], ◌∷◌, ◌++◌, length, get_or, take, drop, set, sym, refl, ap, ◌∙◌, arith}
use Rattle.std.proofs.lemmas.List.{length-take, length-drop, take_at, drop_at, drop-drop, drop-take, take-take, take-append-le, drop-append-le}
use Rattle.std.specs.Simd.{first_chunks}
use Rattle.octets.specs.Places.{placed}
use Rattle.blocks.specs.Blocks.{blocks_of}

-- the chunks of a slice are its blocks
pub chunks_are : (n : ℕ) (xs : List ℕ) → first_chunks 512 n xs ≡ blocks_of n xs
unfolding blocks_of
chunks_are zero xs = refl
chunks_are (suc n) xs = ap (λ bs. take 512 xs ∷ bs) (chunks_are n (drop 512 xs))

-- the first of the blocks
pub take_blocks : (k n : ℕ) (xs : List ℕ) → k ≤ n → take k (blocks_of n xs) ≡ blocks_of k xs
unfolding blocks_of
take_blocks zero n xs h = refl
take_blocks (suc k) zero xs h = absurd (omega arith)
take_blocks (suc k) (suc n) xs h = ap (λ bs. take 512 xs ∷ bs) (take_blocks k n (drop 512 xs) (omega arith))

pub length_blocks : (n : ℕ) (xs : List ℕ) → length (blocks_of n xs) ≡ n
unfolding blocks_of
length_blocks zero xs = refl
length_blocks (suc n) xs = ap suc (length_blocks n (drop 512 xs))

-- the block at a place is the 512 bytes from there on
pub block_at : (n i : ℕ) (xs : List ℕ) → i < n → get_or (blocks_of n xs) i [] ≡ take 512 (drop (i * 512) xs)
unfolding blocks_of
block_at zero i xs h = absurd (omega arith)
block_at (suc n) zero xs h = refl
block_at (suc n) (suc i) xs h =
    let e : 512 + i * 512 ≡ suc i * 512 = omega arith in
    block_at n i (drop 512 xs) (omega arith) ∙ ap (take 512) (drop-drop (i * 512) 512 xs ∙ ap (λ m. drop m xs) e)

-- a write past the first block
later_take : (xs bs : List ℕ) (j : ℕ) → 512 + j ≤ length xs → take 512 (placed xs (512 + j) bs) ≡ take 512 xs
later_take xs bs j h =
    let l : 512 ≤ length (take (512 + j) xs) = simp length-take (omega arith) in
    take-append-le 512 (take (512 + j) xs) (bs ++ drop (512 + j + length bs) xs) l ∙ take-take 512 (512 + j) xs (omega arith)

later_drop : (xs bs : List ℕ) (j : ℕ) → 512 + j ≤ length xs → drop 512 (placed xs (512 + j) bs) ≡ placed (drop 512 xs) j bs
later_drop xs bs j h =
    let rest = bs ++ drop (512 + j + length bs) xs in
    let l : 512 ≤ length (take (512 + j) xs) = simp length-take (omega arith) in
    let e : 512 + (j + length bs) ≡ 512 + j + length bs = omega arith in
    drop-append-le 512 (take (512 + j) xs) rest l
    ∙ (ap (λ x. x ++ rest) (drop-take 512 j xs)
    ∙ ap (λ x. take j (drop 512 xs) ++ (bs ++ x)) (sym (drop-drop (j + length bs) 512 xs ∙ ap (λ m. drop m xs) e)))

-- a block written at its place
pub blocks_placed : (n k : ℕ) (xs blk : List ℕ) → length blk ≡ 512 → k < n → n * 512 ≤ length xs → blocks_of n (placed xs (k * 512) blk) ≡ set (blocks_of n xs) k blk
unfolding blocks_of
blocks_placed zero k xs blk l h r = absurd (omega arith)
blocks_placed (suc n) zero xs blk l h r =
    let rest = drop (0 + length blk) xs in
    let e : 0 + length blk ≡ 512 = omega arith in
    ap (λ b. b ∷ blocks_of n (drop 512 (blk ++ rest))) (take_at blk rest 512 l)
    ∙ ap (λ x. blk ∷ blocks_of n x) (drop_at blk rest 512 l ∙ ap (λ m. drop m xs) e)
blocks_placed (suc n) (suc k) xs blk l h r =
    let e : suc k * 512 ≡ 512 + k * 512 = omega arith in
    let room : 512 + k * 512 ≤ length xs = omega arith in
    let left : n * 512 ≤ length (drop 512 xs) = simp length-drop (omega arith) in
    ap (λ m. take 512 (placed xs m blk) ∷ blocks_of n (drop 512 (placed xs m blk))) e
    ∙ (ap (λ b. b ∷ blocks_of n (drop 512 (placed xs (512 + k * 512) blk))) (later_take xs blk (k * 512) room)
    ∙ ap (λ x. take 512 xs ∷ x) (ap (blocks_of n) (later_drop xs blk (k * 512) room) ∙ blocks_placed n k (drop 512 xs) blk l (omega arith) left))
