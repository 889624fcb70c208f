-- A block as it is written, that it reads back, and that only such blocks pass for written.
use Rattle.std.proofs.Common.{◌≡◌, ℕ, zero, suc, ◌+◌, ◌-◌, ◌*◌, ◌/◌, ◌%◌, ◌^◌, ◌<◌, ◌≤◌, Bool, true, false, cond, not, eqb, leb, List, [], ◌++◌, length, get_or, take, drop, replicate, sum, sym, refl, ap, ◌∙◌, zero-add, arith}
use Rattle.std.specs.List.{between}
use Rattle.std.proofs.lemmas.List.{append-nil, append_assoc, length-append, length-replicate, take_at, drop_at, drop-drop, drop_all, drop-replicate, replicate-append-replicate, get_or-append_right}
use Rattle.std.proofs.lemmas.Bool.{cond-true, and_from, and_parts, eq-eqb, ne_eqb, eqb-true, le-leb, leb-true, not_from_false, not-true}
use Rattle.std.proofs.lemmas.List.Edits.{length-between}
use Rattle.std.proofs.lemmas.Nat.{shr-shr}
use Rattle.octets.specs.Big.{be2, num2}
use Rattle.octets.specs.Places.{placed}
use Rattle.octets.proofs.Placing.{placed_placed, length_placed}
use Rattle.store.specs.Reports.{Report}
use Rattle.blocks.specs.Layout.{head_of, checked_bytes, block_of, all_zero, number_in, report_in, written}

pub length_checked : (r : Report) → length r.body ≤ 480 → length (checked_bytes r) ≡ 510
unfolding head_of checked_bytes
length_checked r h = simp (length-append, length-replicate) (omega arith)

pub length_block : (r : Report) → length r.body ≤ 480 → length (block_of r) ≡ 512
unfolding block_of
length_block r h = length-append (checked_bytes r) _ ∙ ap (λ n. n + 2) (length_checked r h)

-- a copy that fits is a write at that place
copied : (xs ys bs : List ℕ) (at : ℕ) (t : Bool) → t ≡ leb (at + length bs) (length xs) → ys ≡ cond t (placed xs at bs) xs → at + length bs ≤ length xs → ys ≡ placed xs at bs
copied xs ys bs at t e f h = f ∙ cond-true t (placed xs at bs) xs (e ∙ le-leb (at + length bs) (length xs) h)

-- the head and the body over zeros
laid : (r : Report) → length r.body ≤ 480
    → placed (placed (replicate 512 0) 0 (head_of r.number r.stream r.function (length r.body))) 8 r.body ≡ checked_bytes r ++ replicate 2 0
unfolding head_of checked_bytes
laid r h =
    let head = head_of r.number r.stream r.function (length r.body) in
    let hb = head ++ r.body in
    let n = length r.body in
    let l : length hb ≡ 8 + n = length-append head r.body in
    let room : 0 + 8 + n ≤ length {A = ℕ} (replicate 512 0) = omega (arith, length-replicate {A = ℕ} 512 0) in
    placed_placed (replicate 512 0) 0 head r.body room
    ∙ (ap (λ x. hb ++ drop x (replicate 512 0)) (zero-add (length hb) ∙ l)
    ∙ (ap (λ x. hb ++ x) (drop-replicate (8 + n) 512 0 ∙ (ap (λ m. replicate m 0) (omega arith) ∙ sym (replicate-append-replicate (502 - n) 2 0)))
    ∙ sym (append_assoc hb (replicate (502 - n) 0) (replicate 2 0))))

-- what the writer leaves, by its steps
pub sealed : (r : Report) (a x y z head cs : List ℕ) (k : ℕ) (s t u : Bool) → length r.body ≤ 480
    → a ≡ replicate 512 0 → head ≡ head_of r.number r.stream r.function (length r.body)
    → s ≡ leb (0 + length head) (length a) → x ≡ cond s (placed a 0 head) a
    → t ≡ leb (8 + length r.body) (length x) → y ≡ cond t (placed x 8 r.body) x
    → k ≡ sum (take 510 y) % 65536 → cs ≡ be2 k
    → u ≡ leb (510 + length cs) (length y) → z ≡ cond u (placed y 510 cs) y → z ≡ block_of r
unfolding head_of block_of
sealed r a x y z head cs k s t u h ea eh es ex et ey ek ec eu ez =
    let f = checked_bytes r in
    let la : length a ≡ 512 = ap length ea ∙ length-replicate {A = ℕ} 512 0 in
    let lh : length head ≡ 8 = ap length eh in
    let px : x ≡ placed a 0 head = copied a x head 0 s es ex (omega arith) in
    let lx : length x ≡ 512 = ap length px ∙ (length_placed a 0 head (omega arith) ∙ la) in
    let py : y ≡ placed x 8 r.body = copied x y r.body 8 t et ey (omega arith) in
    let whole : y ≡ f ++ replicate 2 0 =
    py ∙ (ap (λ x. placed x 8 r.body) (px ∙ (ap (λ a. placed a 0 head) ea ∙ ap (placed (replicate 512 0) 0) eh)) ∙ laid r h) in
    let front : take 510 y ≡ f = ap (take 510) whole ∙ take_at f (replicate 2 0) 510 (length_checked r h) in
    let c : cs ≡ be2 (sum f % 65536) = ec ∙ ap be2 (ek ∙ ap (λ s. sum s % 65536) front) in
    let lc : length cs ≡ 2 = ap length c in
    let ly : length y ≡ 512 = ap length whole ∙ (length-append f (replicate 2 0) ∙ ap (λ n. n + 2) (length_checked r h)) in
    let pz : z ≡ placed y 510 cs = copied y z cs 510 u eu ez (omega arith) in
    let d : drop (510 + length cs) y ≡ [] = drop_all (510 + length cs) y (omega arith) in
    pz ∙ (ap (λ s. s ++ (cs ++ drop (510 + length cs) y)) front
    ∙ (ap (λ s. f ++ (cs ++ s)) d
    ∙ (ap (λ s. f ++ s) (append-nil cs) ∙ ap (λ s. f ++ s) c)))

-- ---- a report reads back from its block

made : ℕ → ℕ → ℕ → List ℕ → Report
made n s f b = record { number = n; stream = s; function = f; body = b }

pub zeros : (k : ℕ) → all_zero (replicate k 0) ≡ true
zeros zero = refl
zeros (suc k) = zeros k

-- four bytes hold a number
be4_number : (m : ℕ) → m < 2 ^ 32 → (m / 16777216 % 256) * 16777216 + (m / 65536 % 256) * 65536 + (m / 256 % 256) * 256 + m % 256 ≡ m
be4_number m h =
    let d1 : m / 256 / 256 ≡ m / 65536 = shr-shr m 8 8 in
    let d2 : m / 65536 / 256 ≡ m / 16777216 = shr-shr m 16 8 in
    let a : m / 256 % 256 + m / 65536 * 256 ≡ m / 256 = omega arith in
    let b : m / 65536 % 256 + m / 16777216 * 256 ≡ m / 65536 = omega arith in
    let c : m / 16777216 % 256 ≡ m / 16777216 = omega arith in
    omega arith

module _ (r : Report) (some : r.number ≡ 0 → ⊥) (fits : r.number < 2 ^ 32) (short : length r.body ≤ 480) where
  -- what stands after the head
  tail_is : drop 8 (block_of r) ≡ r.body ++ (replicate (502 - length r.body) 0 ++ be2 (sum (checked_bytes r) % 65536))
  unfolding block_of checked_bytes head_of
  tail_is = append_assoc r.body (replicate (502 - length r.body) 0) (be2 (sum (checked_bytes r) % 65536))

  pub number_is : number_in (block_of r) ≡ r.number
  unfolding block_of checked_bytes head_of
  number_is = be4_number r.number fits

  length_is : num2 (block_of r) 6 ≡ length r.body
  unfolding block_of checked_bytes head_of
  length_is = omega arith

  stream_is : get_or (block_of r) 4 0 ≡ r.stream
  unfolding block_of checked_bytes head_of
  stream_is = refl

  function_is : get_or (block_of r) 5 0 ≡ r.function
  unfolding block_of checked_bytes head_of
  function_is = refl

  front_is : take 510 (block_of r) ≡ checked_bytes r
  unfolding block_of
  front_is = take_at (checked_bytes r) (be2 (sum (checked_bytes r) % 65536)) 510 (length_checked r short)

  check_is : num2 (block_of r) 510 ≡ sum (take 510 (block_of r)) % 65536
  unfolding block_of
  check_is =
      let l = length_checked r short in
      let k = sum (checked_bytes r) % 65536 in
      let a : get_or (block_of r) 510 0 ≡ k / 256 % 256 = get_or-append_right (checked_bytes r) (be2 k) 510 510 0 l (omega arith) in
      let b : get_or (block_of r) 511 0 ≡ k % 256 = get_or-append_right (checked_bytes r) (be2 k) 510 511 0 l (omega arith) in
      let s : k ≡ sum (take 510 (block_of r)) % 65536 = ap (λ x. sum x % 65536) (sym front_is) in
      let small : k < 65536 = omega arith in
      let joined : get_or (block_of r) 510 0 * 256 + get_or (block_of r) 511 0 ≡ k = omega arith in
      joined ∙ s

  body_is : between 8 (8 + length r.body) (block_of r) ≡ r.body
  body_is =
      let same : 8 + length r.body - 8 ≡ length r.body = omega arith in
      ap (λ m. take m (drop 8 (block_of r))) same ∙ (ap (take (length r.body)) tail_is ∙ take_at r.body _ (length r.body) refl)

  rest_is : between (8 + length r.body) 510 (block_of r) ≡ replicate (502 - length r.body) 0
  rest_is =
      let m = length r.body in
      let z = replicate {A = ℕ} (502 - m) 0 in
      let same : 510 - (8 + m) ≡ 502 - m = omega arith in
      ap (λ k. take k (drop (8 + m) (block_of r))) same
      ∙ (ap (take (502 - m)) (sym (drop-drop m 8 (block_of r)) ∙ (ap (drop m) tail_is ∙ drop_at r.body _ m refl))
      ∙ take_at z _ (502 - m) (length-replicate (502 - m) 0))

  pub written_is : written (block_of r) ≡ true
  written_is =
      let ne : number_in (block_of r) ≡ 0 → ⊥ = λ e. some (sym number_is ∙ e) in
      and_from _ _ (not_from_false _ (ne_eqb (number_in (block_of r)) 0 ne))
      (and_from _ _ (le-leb (num2 (block_of r) 6) 480 (omega (arith, length_is)))
      (and_from _ _ (eq-eqb (num2 (block_of r) 510) (sum (take 510 (block_of r)) % 65536) check_is)
      (ap (λ m. all_zero (between (8 + m) 510 (block_of r))) length_is ∙ (ap all_zero rest_is ∙ zeros (502 - length r.body)))))

  pub report_is : report_in (block_of r) ≡ r
  unfolding made
  report_is =
      let b = block_of r in
      ap (λ x. made x (get_or b 4 0) (get_or b 5 0) (between 8 (8 + num2 b 6) b)) number_is
      ∙ (ap (λ x. made r.number x (get_or b 5 0) (between 8 (8 + num2 b 6) b)) stream_is
      ∙ (ap (λ x. made r.number r.stream x (between 8 (8 + num2 b 6) b)) function_is
      ∙ (ap (λ x. made r.number r.stream r.function (between 8 (8 + x) b)) length_is
      ∙ ap (made r.number r.stream r.function) body_is)))

-- ---- a written block

module _ (b : List ℕ) (ok : written b ≡ true) where
  -- its parts: number, body length, check, zeros after the body
  pub parts_of : (eqb (number_in b) 0 ≡ false) × (num2 b 6 ≤ 480) × (num2 b 510 ≡ sum (take 510 b) % 65536) × (all_zero (between (8 + num2 b 6) 510 b) ≡ true)
  parts_of =
      let p = and_parts (not (eqb (number_in b) 0)) _ ok in
      let q = and_parts (leb (num2 b 6) 480) _ p.1 in
      let r = and_parts (eqb (num2 b 510) (sum (take 510 b) % 65536)) _ q.1 in
      (not-true (eqb (number_in b) 0) p.0, leb-true (num2 b 6) 480 q.0, eqb-true (num2 b 510) _ r.0, r.1)

  pub body_long : length b ≡ 512 → length (report_in b).body ≡ num2 b 6
  body_long long = let h = parts_of.1 in length-between b 8 (8 + num2 b 6) (omega arith) ∙ omega arith
