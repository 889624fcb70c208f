-- A frame at the front of a buffer.
use Rattle.std.proofs.Common.{◌≡◌, ℕ, ◌+◌, ◌≤◌, Bool, true, false, cond, ◌&&◌, leb, List, ◌++◌, length, drop, sym, refl, ap, ◌∙◌, ap₂, arith}
use Rattle.std.proofs.lemmas.Bool.{le-leb}
use Rattle.frames.specs.Frames.{frame_of, frame_fits, frame_written}
use Rattle.frames.specs.declared.header.Header.{Header}
use Rattle.sending.specs.Sending.{on_buffer}

-- a frame has 14 bytes before its body
pub length_frame : (h : Header) (body : List ℕ) → length (frame_of h body) ≡ 14 + length body
unfolding frame_of
length_frame h body = omega arith

-- a body of at most 480 bytes is short enough for its length field
and_true : (a b : Bool) → b ≡ true → (a && b) ≡ a
and_true true b e = e
and_true false b e = refl

module _ (out : List ℕ) (h : Header) (body : List ℕ) (short : length body ≤ 480) where
  fits : frame_fits out 0 body ≡ leb (length (frame_of h body)) (length out)
  fits =
      and_true (leb (0 + 14 + length body) (length out)) (leb (10 + length body) 0xffff_ffff) (le-leb (10 + length body) 0xffff_ffff (omega arith))
      ∙ ap (λ n. leb n (length out)) (sym (length_frame h body) ∙ refl)

  pub frame_after : frame_written out 0 h body ≡ cond (leb (length (frame_of h body)) (length out)) (on_buffer (frame_of h body) out) out
  frame_after =
      let z : 0 + length (frame_of h body) ≡ length (frame_of h body) = omega arith in
      ap₂ (λ (b : Bool) (n : ℕ). cond b (frame_of h body ++ drop n out) out) fits z
