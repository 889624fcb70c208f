-- No body exceeds the limit.
use Rattle.std.proofs.Common.{lit≤}
use Rattle.bodies.specs.declared.body.Body.TheVariants as body
use Rattle.bodies.specs.Bodies.{body_of, EveryBodyFits}

pub every_body_fits : EveryBodyFits
unfolding body_of
every_body_fits body.Empty = lit≤ tt
every_body_fits body.Identity = lit≤ tt
every_body_fits body.Accepted = lit≤ tt
every_body_fits (body.Alarm alcd alarm) = lit≤ tt
every_body_fits (body.Event report event) = lit≤ tt
every_body_fits (body.Header header) = lit≤ tt
every_body_fits (body.Acknowledge code) = lit≤ tt
