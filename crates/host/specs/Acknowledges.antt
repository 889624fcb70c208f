-- The acknowledge bytes.
use Rattle.std.specs.Prelude.{ℕ}
use Rattle.bodies.specs.declared.body.Body.{Body}
use Rattle.bodies.specs.declared.body.Body.TheVariants as body
use Rattle.host.specs.declared.acknowledge.Acknowledge.{Acknowledge}
use Rattle.host.specs.declared.acknowledge.Acknowledge.TheVariants.{OfflineAccepted, OnlineAccepted, OnlineNotAllowed, AlreadyOnline, AlarmAccepted, AlarmUnknown, UnloadGranted, UnloadBusy, NothingSpooled}

-- the byte of each acknowledgement
abbrev pub acknowledge_byte : Acknowledge → ℕ
acknowledge_byte OfflineAccepted = 0
acknowledge_byte OnlineAccepted = 0
acknowledge_byte OnlineNotAllowed = 1
acknowledge_byte AlreadyOnline = 2
acknowledge_byte AlarmAccepted = 0
acknowledge_byte AlarmUnknown = 1
acknowledge_byte UnloadGranted = 0
acknowledge_byte UnloadBusy = 1
acknowledge_byte NothingSpooled = 2

-- a body of one acknowledge byte
abbrev pub acknowledging : Acknowledge → Body
acknowledging a = body.Acknowledge (acknowledge_byte a)
