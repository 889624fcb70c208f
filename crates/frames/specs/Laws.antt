-- Headers and frames are read back as they were written, and written back as they were read.
use Rattle.std.specs.Prelude.{◌≡◌, ℕ, ◌+◌, ◌<◌, List, ◌++◌, length, take, drop, IfSome, Some, Option}
use Rattle.std.specs.List.{between}
use Rattle.octets.specs.Big.{be4}
use Rattle.frames.specs.declared.header.Header.{Header}
use Rattle.frames.specs.declared.frame.Frame.{Frame}
use Rattle.frames.specs.Frames.{header_bytes, frame_at, frame_of}

-- a frame as it is sent is four bytes of length, ten of header, and the body; the length counts what follows it
abbrev pub FrameWhole : Type 0
FrameWhole = (h : Header) (body : List ℕ)
    → (take 4 (frame_of h body) ≡ be4 (length (drop 4 (frame_of h body)))) × (take 10 (drop 4 (frame_of h body)) ≡ header_bytes h)
    × (drop 14 (frame_of h body) ≡ body) × (length (frame_of h body) ≡ 14 + length body)

-- a frame was written at a place of a buffer: after its length, up to the place that the writer answered, the host reads header and body
abbrev pub WrittenBack : List ℕ → ℕ → Header → List ℕ → Option ℕ → Type 0
WrittenBack out at h body answer = IfSome answer (λ next. h.stream < 128 → frame_at (between (at + 4) next out) ≡ Some (record { header = h; body = body }))

-- a frame was taken apart: its header and its body, written again, are the frame
abbrev pub PartedBack : List ℕ → Option Frame → Type 0
PartedBack frame answer = IfSome answer (λ f. header_bytes f.header ++ f.body.now ≡ frame)
