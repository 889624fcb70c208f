-- A report and its block determine each other.
use Rattle.std.proofs.Common.{◌≡◌, ℕ, ◌+◌, ◌-◌, ◌/◌, ◌%◌, ◌<◌, true, eqb, ltb, List, [], ◌∷◌, ◌++◌, length, get_or, take, drop, replicate, sum, sym, refl, ap, ◌∙◌, arith, take-add}
use Rattle.std.specs.List.{between}
use Rattle.std.proofs.lemmas.List.{length-take, length-drop, take-append-drop, drop_more, drop_all}
use Rattle.std.proofs.lemmas.Bool.{and_parts, or_parts, or_from, eqb-true, eqb-false, le-ltb, ltb-false}
use Rattle.octets.specs.Big.{be2, num2}
use Rattle.blocks.specs.Layout.{head_of, checked_bytes, block_of, all_zero, number_in, report_in, written}
use Rattle.blocks.specs.Laws.{ReadsBack, WrittenOnly}
use Rattle.blocks.proofs.Layouts.{written_is, report_is, parts_of, body_long}

pub reads_back : ReadsBack
reads_back r fit fits =
    let p = or_parts (eqb r.number 0) (ltb 480 (length r.body)) fit in
    let some = eqb-false r.number 0 p.0 in
    let short = ltb-false 480 (length r.body) p.1 in
    (written_is r some fits short, report_is r some fits short)

zeros_are : (xs : List ℕ) → all_zero xs ≡ true → xs ≡ replicate (length xs) 0
zeros_are [] h = refl
zeros_are (x ∷ xs) h =
    let p = and_parts (eqb x 0) (all_zero xs) h in
    ap (λ y. y ∷ xs) (eqb-true x 0 p.0) ∙ ap (λ ys. 0 ∷ ys) (zeros_are xs p.1)

take_8 : (b : List ℕ) → 7 < length b → take 8 b ≡ get_or b 0 0 ∷ get_or b 1 0 ∷ get_or b 2 0 ∷ get_or b 3 0 ∷ get_or b 4 0 ∷ get_or b 5 0 ∷ get_or b 6 0 ∷ get_or b 7 0 ∷ []
take_8 [] h = absurd (omega arith)
take_8 (a ∷ []) h = absurd (omega arith)
take_8 (a ∷ (c ∷ [])) h = absurd (omega arith)
take_8 (a ∷ (c ∷ (d ∷ []))) h = absurd (omega arith)
take_8 (a ∷ (c ∷ (d ∷ (e ∷ [])))) h = absurd (omega arith)
take_8 (a ∷ (c ∷ (d ∷ (e ∷ (f ∷ []))))) h = absurd (omega arith)
take_8 (a ∷ (c ∷ (d ∷ (e ∷ (f ∷ (g ∷ [])))))) h = absurd (omega arith)
take_8 (a ∷ (c ∷ (d ∷ (e ∷ (f ∷ (g ∷ (k ∷ []))))))) h = absurd (omega arith)
take_8 (a ∷ (c ∷ (d ∷ (e ∷ (f ∷ (g ∷ (k ∷ (m ∷ b)))))))) h = refl

module _ (b : List ℕ) (long : length b ≡ 512) (bytes : (i : ℕ) → get_or b i 0 < 256) (ok : written b ≡ true) where
  head_back : head_of (number_in b) (get_or b 4 0) (get_or b 5 0) (length (report_in b).body) ≡ take 8 b
  unfolding head_of
  head_back =
      let b0 = bytes 0 in
      let b1 = bytes 1 in
      let b2 = bytes 2 in
      let b3 = bytes 3 in
      let b6 = bytes 6 in
      let b7 = bytes 7 in
      let e0 : number_in b / 16777216 % 256 ≡ get_or b 0 0 = omega arith in
      let e1 : number_in b / 65536 % 256 ≡ get_or b 1 0 = omega arith in
      let e2 : number_in b / 256 % 256 ≡ get_or b 2 0 = omega arith in
      let e3 : number_in b % 256 ≡ get_or b 3 0 = omega arith in
      let l = body_long b ok long in
      let e6 : length (between 8 (8 + num2 b 6) b) / 256 % 256 ≡ get_or b 6 0 = omega arith in
      let e7 : length (between 8 (8 + num2 b 6) b) % 256 ≡ get_or b 7 0 = omega arith in
      let t = take_8 b (omega arith) in
      cc

  rest_back : replicate (502 - length (report_in b).body) 0 ≡ between (8 + num2 b 6) 510 b
  rest_back =
      let p = parts_of b ok in
      let h = p.1 in
      let m = num2 b 6 in
      let l : length (between (8 + m) 510 b) ≡ 502 - m = simp (length-take, length-drop) (omega arith) in
      ap (λ k. replicate (502 - k) 0) (body_long b ok long) ∙ (ap (λ k. replicate k 0) (sym l) ∙ sym (zeros_are (between (8 + m) 510 b) p.3))

  front_back : checked_bytes (report_in b) ≡ take 510 b
  unfolding checked_bytes
  front_back =
      let h = (parts_of b ok).1 in
      let m = num2 b 6 in
      let same : 8 + m - 8 ≡ m = omega arith in
      let rest : 8 + m + (510 - (8 + m)) ≡ 510 = omega arith in
      ap (λ x. (x ++ between 8 (8 + m) b) ++ replicate (502 - length (between 8 (8 + m) b)) 0) head_back
      ∙ (ap (λ x. (take 8 b ++ between 8 (8 + m) b) ++ x) rest_back
      ∙ (ap (λ k. (take 8 b ++ take k (drop 8 b)) ++ between (8 + m) 510 b) same
      ∙ (ap (λ x. x ++ between (8 + m) 510 b) (sym (take-add 8 m b))
      ∙ (sym (take-add (8 + m) (510 - (8 + m)) b) ∙ ap (λ k. take k b) rest))))

  last_two : drop 510 b ≡ get_or b 510 0 ∷ get_or b 511 0 ∷ []
  last_two =
      drop_more b 510 0 (omega arith) ∙ ap (λ x. get_or b 510 0 ∷ x) (drop_more b 511 0 (omega arith) ∙ ap (λ x. get_or b 511 0 ∷ x) (drop_all 512 b (omega arith)))

  check_back : be2 (sum (checked_bytes (report_in b)) % 65536) ≡ drop 510 b
  check_back =
      let b0 = bytes 510 in
      let b1 = bytes 511 in
      let e : sum (checked_bytes (report_in b)) % 65536 ≡ num2 b 510 = ap (λ x. sum x % 65536) front_back ∙ sym (parts_of b ok).2 in
      let e0 : num2 b 510 / 256 % 256 ≡ get_or b 510 0 = omega arith in
      let e1 : num2 b 510 % 256 ≡ get_or b 511 0 = omega arith in
      ap be2 e ∙ (ap (λ x. x ∷ (num2 b 510 % 256) ∷ []) e0 ∙ (ap (λ x. get_or b 510 0 ∷ x ∷ []) e1 ∙ sym last_two))

  block_back : block_of (report_in b) ≡ b
  unfolding block_of
  block_back = ap (λ x. x ++ be2 (sum (checked_bytes (report_in b)) % 65536)) front_back ∙ (ap (λ x. take 510 b ++ x) check_back ∙ take-append-drop 510 b)

pub written_only : WrittenOnly
written_only b long bytes ok =
    let p = parts_of b ok in
    let h = p.1 in
    let l = body_long b ok long in
    (or_from (eqb (number_in b) 0) _ p.0 (le-ltb 480 (length (report_in b).body) (omega arith)), block_back b long bytes ok)
