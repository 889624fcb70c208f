use Rattle.std.proofs.Common.{◌≡◌, ℕ, ◌+◌, ◌≤◌, true, leb, ◌++◌, length, Some, Option, sym, refl, ap, ◌∙◌, arith}
use Rattle.std.proofs.lemmas.Grind.{common_steps}
use Rattle.std.proofs.lemmas.Bool.{cond-true, and_from, le-leb}
use Rattle.octets.specs.Big.{be4}
use Rattle.octets.proofs.Writing.{wrote, wrote_more}
use Rattle.frames.specs.Frames.{header_bytes, frame_of, frame_fits, frame_end, frame_written}
use Rattle.frames.proofs.RoundTrips.{frame_whole, written_back}
use Rattle.frames.proofs.frame.write_frame.Goals as goal

pub returns-in_err-checked_sub-clause-whole : goal.returns-in_err-checked_sub-clause-whole
returns-in_err-checked_sub-clause-whole c = frame_whole

pub returns-in_err-room-clause-whole : goal.returns-in_err-room-clause-whole
returns-in_err-room-clause-whole c = frame_whole

pub returns-then-body-room-clause-whole : goal.returns-then-body-room-clause-whole
returns-then-body-room-clause-whole c = frame_whole

pub returns-in_err-length-clause-whole : goal.returns-in_err-length-clause-whole
returns-in_err-length-clause-whole c = frame_whole

pub returns : goal.returns
unfolding frame_of
returns c =
    let a = c.args in
    let xs = a.out.now in
    let body = a.body.now in
    let len = be4 (10 + length body) in
    let head = header_bytes a.header in
    let same : c.in_ok-length.length ≡ 10 + length body = grind (arith, common_steps) in
    let small : 10 + length body ≤ 0xffff_ffff = grind (arith, common_steps) in
    let room : a.at + 14 + length body ≤ length xs = grind (arith, common_steps) in
    let fits : frame_fits xs a.at body ≡ true = and_from (leb (a.at + 14 + length body) (length xs)) _ (le-leb _ _ room) (le-leb _ _ small) in
    let one = wrote xs a.at len c.to_be_bytes.result c.copy_at.result c.copy_at.new.out (omega arith) (c.to_be_bytes.ensures ∙ ap be4 same) c.copy_at.ensures.fits c.copy_at.ensures.after in
    let two = wrote_more xs a.at len head c.bytes.result c.copy_at-2.result (a.at + 4) c.copy_at.new.out c.copy_at-2.new.out
    (omega arith) one refl c.bytes.ensures.value c.copy_at-2.ensures.fits c.copy_at-2.ensures.after in
    let place : ◌≡◌ {A = Option ℕ} (Some (a.at + 14 + length body)) (frame_end xs a.at body) = sym (cond-true _ _ _ fits) in
    let after : c.copy_at-3.new.out ≡ frame_written xs a.at a.header body =
    wrote_more xs a.at (len ++ head) body body c.copy_at-3.result (a.at + 14) c.copy_at-2.new.out c.copy_at-3.new.out
    room two refl refl c.copy_at-3.ensures.fits c.copy_at-3.ensures.after
    ∙ sym (cond-true _ _ _ fits) in
    record {
      place = place;
      after = after;
      whole = frame_whole;
      back = written_back xs a.at a.header body (Some (a.at + 14 + length body)) c.copy_at-3.new.out (omega arith) (omega arith) place after;
    }
