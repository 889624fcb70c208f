-- Frames: a header of ten bytes and a body; before them, where one is sent, their length in four bytes.
use Rattle.std.specs.Prelude.{ℕ, ◌+◌, ◌%◌, Bool, cond, ◌&&◌, List, ◌∷◌, ◌++◌, length, drop, Some, None, Option, nat_le, slice_index}
use Rattle.octets.specs.Big.{be2, be4, num2, num4}
use Rattle.octets.specs.Places.{placed}
use Rattle.frames.specs.declared.header.Header.{Header}
use Rattle.frames.specs.declared.frame.Frame.{Frame}

-- byte 2: 128 for the W bit, plus the stream's seven bits
abbrev pub stream_byte : Bool → ℕ → ℕ
stream_byte wait stream = cond wait 128 0 + stream % 128

-- the ten bytes of a header
abbrev pub header_bytes : Header → List ℕ
header_bytes h = be2 h.session ++ (stream_byte h.wait h.stream ∷ h.function ∷ h.ptype ∷ h.stype ∷ be4 h.transaction)

-- the header that ten bytes are
abbrev pub header_of : List ℕ → Header
header_of bs = record {
  session = num2 bs 0;
  wait = nat_le 128 (slice_index bs 2);
  stream = slice_index bs 2 % 128;
  function = slice_index bs 3;
  ptype = slice_index bs 4;
  stype = slice_index bs 5;
  transaction = num4 bs 6;
}

-- a frame by its parts
pub record Parted : Type 0 where
  pub header : Header
  pub body : List ℕ

-- header and body of a frame as the host gives it; none below ten bytes
abbrev pub frame_at : List ℕ → Option Parted
frame_at bs = cond (nat_le 10 (length bs)) (Some (record { header = header_of bs; body = drop 10 bs })) None

-- what taking a frame apart gave
abbrev pub parted : Option Frame → Option Parted
parted None = None
parted (Some f) = Some (record { header = f.header; body = f.body.now })

-- a frame as it is sent: its length in four bytes, the header, the body
unfoldable pub frame_of : Header → List ℕ → List ℕ
frame_of h body = be4 (10 + length body) ++ (header_bytes h ++ body)

-- whether a frame with a body can be written into a buffer at a place: there is room, and four bytes hold its length
abbrev pub frame_fits : List ℕ → ℕ → List ℕ → Bool
frame_fits out at body = nat_le (at + 14 + length body) (length out) && nat_le (10 + length body) 0xffff_ffff

-- the place after the frame; none where it is refused
abbrev pub frame_end : List ℕ → ℕ → List ℕ → Option ℕ
frame_end out at body = cond (frame_fits out at body) (Some (at + 14 + length body)) None

-- the buffer after that
abbrev pub frame_written : List ℕ → ℕ → Header → List ℕ → List ℕ
frame_written out at h body = cond (frame_fits out at body) (placed out at (frame_of h body)) out
