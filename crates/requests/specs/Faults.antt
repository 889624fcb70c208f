-- The faults of a frame of the host.
use Rattle.std.specs.Prelude.{ℕ, List, ◌++◌, codes, decimal}
use Rattle.requests.specs.declared.request.FrameFault.{FrameFault}
use Rattle.requests.specs.declared.request.FrameFault.TheVariants.{Session, Stream, Function, BadItem, Unlisted}

-- the code that a call answers
abbrev pub fault_code : FrameFault → ℕ
fault_code Session = 20
fault_code Stream = 21
fault_code Function = 22
fault_code (BadItem place) = 23
fault_code (Unlisted place) = 24

-- the place in the frame
abbrev pub fault_place : FrameFault → ℕ
fault_place Session = 0
fault_place Stream = 2
fault_place Function = 3
fault_place (BadItem place) = place
fault_place (Unlisted place) = place

-- the function of the stream-9 message that tells it
abbrev pub fault_function : FrameFault → ℕ
fault_function Session = 1
fault_function Stream = 3
fault_function Function = 5
fault_function (BadItem place) = 7
fault_function (Unlisted place) = 7

-- what is said of it
abbrev pub fault_text : FrameFault → List ℕ
fault_text Session = codes "the session is another's"
fault_text Stream = codes "the stream is unknown"
fault_text Function = codes "the function is unknown"
fault_text (BadItem place) = codes "the item at " ++ decimal place ++ codes " is at fault"
fault_text (Unlisted place) = codes "the item at " ++ decimal place ++ codes " is not the one listed"
