-- The frame that a call sends.
use Rattle.std.specs.Prelude.{ℕ, List, [], ◌++◌, length, take, drop, Some, None, Option}
use Rattle.frames.specs.Frames.{frame_of}
use Rattle.frames.specs.declared.header.Header.{Header}
use Rattle.sending.specs.declared.outbox.Message.{Message}
use Rattle.sending.specs.declared.outbox.Outbox.{Outbox}

-- a frame by its header and its body
pub record Sent : Type 0 where
  pub header : Header
  pub body : List ℕ

-- the frame of a message, where there is one
abbrev pub sent_of : Option Message → Option Sent
sent_of None = None
sent_of (Some m) = Some (record { header = m.header; body = take m.length m.body })

abbrev pub sent_by : Outbox → Option Sent
sent_by o = sent_of o.message

-- the bytes that are sent
abbrev pub frame_bytes : Option Sent → List ℕ
frame_bytes None = []
frame_bytes (Some s) = frame_of s.header s.body

-- a buffer whose first bytes are these
abbrev pub on_buffer : List ℕ → List ℕ → List ℕ
on_buffer bytes out = bytes ++ drop (length bytes) out
