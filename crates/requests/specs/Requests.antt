-- The host's primaries. A body begins at place 10 and is read item by item.
use Rattle.std.specs.Prelude.{ℕ, cond, List, length, Some, None, Ok, Err, Option, Result, ◌==◌, nat_le}
use Rattle.secs.specs.declared.format.Format.TheVariants as format
use Rattle.readers.specs.Values.{list_at, byte_at, word_at}
use Rattle.readers.specs.declared.mismatch.Mismatch.{Mismatch}
use Rattle.readers.specs.declared.mismatch.Mismatch.TheVariants.{Faulty, Unexpected}
use Rattle.requests.specs.declared.request.Request.{Request}
use Rattle.requests.specs.declared.request.Request.TheVariants.{AreYouThere, Establish, GoOffline, GoOnline, EnableAlarm, Transmit, Purge}
use Rattle.requests.specs.declared.request.FrameFault.{FrameFault}
use Rattle.requests.specs.declared.request.FrameFault.TheVariants.{Stream, Function, BadItem, Unlisted}

-- an item that is not the one listed, at a place
abbrev pub fault_at : Mismatch → ℕ → FrameFault
fault_at (Faulty fault) place = BadItem place
fault_at Unexpected place = Unlisted place

-- what is read at a place goes on to the next item, or the frame is at fault there
abbrev pub and_then : {A : Type 0} → ℕ → Result A Mismatch → (A → Result Request FrameFault) → Result Request FrameFault
and_then place (Ok x) next = next x
and_then place (Err m) next = Err (fault_at m place)

-- a request whose last item ends at a place; bytes left over are not listed
abbrev pub ending_at : List ℕ → ℕ → Request → Result Request FrameFault
ending_at frame place r = cond (nat_le (length frame) place) (Ok r) (Err (Unlisted place))

-- S5,F3: L,2 of B, whose bit 128 enables, and U4, the alarm
unfoldable pub alarm_enable : List ℕ → Result Request FrameFault
alarm_enable frame =
    and_then 10 (list_at frame 10 2) (λ a. and_then a (byte_at format.Binary frame a) (λ b. and_then b.1 (word_at format.U4 frame b.1) (λ c.
    ending_at frame c.1 (EnableAlarm (nat_le 128 b.0) c.0))))

-- S6,F23: U1, 0 to transmit and 1 to purge; another number is not listed
abbrev pub unload_of : List ℕ → ℕ → ℕ → Result Request FrameFault
unload_of frame order place =
    cond (order == 0) (ending_at frame place Transmit) (cond (order == 1) (ending_at frame place Purge) (Err (Unlisted 10)))

unfoldable pub unload : List ℕ → Result Request FrameFault
unload frame = and_then 10 (byte_at format.U1 frame 10) (λ a. unload_of frame a.0 a.1)

-- the primaries of stream 1: F1, F15 and F17 have no body, that of F13 is not read
abbrev pub stream_one : List ℕ → ℕ → Result Request FrameFault
stream_one frame function =
    cond (function == 1) (ending_at frame 10 AreYouThere)
    (cond (function == 13) (Ok Establish)
    (cond (function == 15) (ending_at frame 10 GoOffline)
    (cond (function == 17) (ending_at frame 10 GoOnline) (Err Function))))

-- the request that a primary with a stream and a function is; stream 2 is known and has no functions
unfoldable pub request_of : List ℕ → ℕ → ℕ → Result Request FrameFault
request_of frame stream function =
    cond (stream == 1) (stream_one frame function)
    (cond (stream == 2) (Err Function)
    (cond (stream == 5) (cond (function == 3) (alarm_enable frame) (Err Function))
    (cond (stream == 6) (cond (function == 23) (unload frame) (Err Function)) (Err Stream))))

-- what a read gave, where it gave something
abbrev pub given : {A : Type 0} → Result A Mismatch → Option A
given (Ok x) = Some x
given (Err m) = None

-- COMMACK of an S1,F14: the byte of the B after an L,2; none where the first items are others
abbrev pub first_of : Option (ℕ × ℕ) → Option ℕ
first_of None = None
first_of (Some p) = Some p.0

abbrev pub commack_at : List ℕ → Option ℕ → Option ℕ
commack_at frame None = None
commack_at frame (Some a) = first_of (given (byte_at format.Binary frame a))

unfoldable pub commack_of : List ℕ → Option ℕ
commack_of frame = commack_at frame (given (list_at frame 10 2))
