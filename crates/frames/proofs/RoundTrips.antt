-- The laws of headers and frames.
use Rattle.std.proofs.Common.{◌≡◌, ℕ, ◌+◌, ◌-◌, ◌%◌, ◌^◌, ◌<◌, ◌≤◌, Bool, true, false, cond, leb, List, ◌++◌, length, take, drop, Some, None, Option, sym, refl, ap, ◌∙◌, subst, inl, inr, arith}
use Rattle.std.specs.List.{between}
use Rattle.std.proofs.lemmas.Bool.{cond-true, cases_Bool, and_parts, leb-true, le-leb, lt-leb}
use Rattle.std.proofs.lemmas.Nat.{from_be_bytes-to_be_bytes_2, from_be_bytes-to_be_bytes_4}
use Rattle.std.proofs.lemmas.List.{drop-drop, take_at}
use Rattle.octets.specs.Big.{be4, num2, num4}
use Rattle.octets.specs.Places.{placed}
use Rattle.octets.proofs.Placing.{drop_placed}
use Rattle.frames.specs.declared.header.Header.{Header}
use Rattle.frames.specs.Frames.{stream_byte, header_bytes, header_of, frame_at, frame_of, frame_fits, frame_end, frame_written, Parted}
use Rattle.frames.specs.Laws.{FrameWhole, WrittenBack}

-- the numbers of a header are within what its bytes hold
record Proper (h : Header) : Type 0 where
  session : h.session < 2 ^ 16
  stream : h.stream < 128
  transaction : h.transaction < 2 ^ 32

abbrev make : ℕ → Bool → ℕ → ℕ → ℕ → ℕ → ℕ → Header
make s w st f p y t = record { session = s; wait = w; stream = st; function = f; ptype = p; stype = y; transaction = t }

-- the W bit and the stream are read back from byte 2
wait_back : (w : Bool) (s : ℕ) → leb 128 (stream_byte w s) ≡ w
wait_back true s = le-leb 128 (128 + s % 128) (omega arith)
wait_back false s = lt-leb 128 (0 + s % 128) (omega arith)

stream_back : (w : Bool) (s : ℕ) → s < 128 → stream_byte w s % 128 ≡ s
stream_back true s h = omega arith
stream_back false s h = omega arith

-- a header is read back from its bytes
header_back : (h : Header) → Proper h → header_of (header_bytes h) ≡ h
header_back h p =
    let s : num2 (header_bytes h) 0 ≡ h.session = from_be_bytes-to_be_bytes_2 h.session p.session in
    let w = wait_back h.wait h.stream in
    let y = stream_back h.wait h.stream p.stream in
    let t : num4 (header_bytes h) 6 ≡ h.transaction = from_be_bytes-to_be_bytes_4 h.transaction p.transaction in
    ap (λ x. make x (leb 128 (stream_byte h.wait h.stream)) (stream_byte h.wait h.stream % 128) h.function h.ptype h.stype (num4 (header_bytes h) 6)) s
    ∙ (ap (λ x. make h.session x (stream_byte h.wait h.stream % 128) h.function h.ptype h.stype (num4 (header_bytes h) 6)) w
    ∙ (ap (λ x. make h.session h.wait x h.function h.ptype h.stype (num4 (header_bytes h) 6)) y
    ∙ ap (λ x. make h.session h.wait h.stream h.function h.ptype h.stype x) t))

abbrev parts : Header → List ℕ → Parted
parts h body = record { header = h; body = body }

-- header and body are read back from the frame that has them
frame_back : (h : Header) (body : List ℕ) → Proper h → frame_at (header_bytes h ++ body) ≡ Some (parts h body)
frame_back h body p =
    let long : 10 ≤ length (header_bytes h ++ body) = omega arith in
    cond-true _ _ _ (le-leb 10 (length (header_bytes h ++ body)) long) ∙ ap (λ x. Some (parts x body)) (header_back h p)

pub frame_whole : FrameWhole
unfolding frame_of
frame_whole h body =
    let n : 10 + length body ≡ length (header_bytes h ++ body) = omega arith in
    (ap be4 n, refl, refl, omega arith)

back_of_frame : (xs : List ℕ) (at : ℕ) (h : Header) (body : List ℕ) → h.session < 2 ^ 16 → h.transaction < 2 ^ 32
    → WrittenBack (frame_written xs at h body) at h body (frame_end xs at body)
unfolding frame_of
back_of_frame xs at h body s t =
    elim (cases_Bool (frame_fits xs at body)) [
      | inl e ↦
          let room = leb-true (at + 14 + length body) (length xs) (and_parts (leb (at + 14 + length body) (length xs)) _ e).0 in
          let bs = frame_of h body in
          let d : drop (at + 4) (placed xs at bs) ≡ (header_bytes h ++ body) ++ drop (at + length bs) xs =
          sym (drop-drop 4 at (placed xs at bs)) ∙ ap (drop 4) (drop_placed xs at bs (omega arith)) in
          let n : at + 14 + length body - (at + 4) ≡ length (header_bytes h ++ body) = omega arith in
          let cut : between (at + 4) (at + 14 + length body) (placed xs at bs) ≡ header_bytes h ++ body =
          ap (λ m. take m (drop (at + 4) (placed xs at bs))) n ∙ (ap (take (length (header_bytes h ++ body))) d ∙ take_at (header_bytes h ++ body) _ _ refl) in
          subst (λ b. WrittenBack (cond b (placed xs at bs) xs) at h body (cond b (Some (at + 14 + length body)) None)) (sym e)
          (λ small. ap frame_at cut ∙ frame_back h body (record { session = s; stream = small; transaction = t }))
      | inr e ↦ subst (λ b. WrittenBack (cond b (placed xs at (frame_of h body)) xs) at h body (cond b (Some (at + 14 + length body)) None)) (sym e) tt
    ]

-- a frame that was written is read back, by what the writer answers and leaves
pub written_back : (xs : List ℕ) (at : ℕ) (h : Header) (body : List ℕ) (answer : Option ℕ) (ys : List ℕ) → h.session < 2 ^ 16 → h.transaction < 2 ^ 32
    → answer ≡ frame_end xs at body → ys ≡ frame_written xs at h body → WrittenBack ys at h body answer
written_back xs at h body answer ys s t place after =
    subst (λ ys. WrittenBack ys at h body answer) (sym after) (subst (WrittenBack (frame_written xs at h body) at h body) (sym place) (back_of_frame xs at h body s t))
