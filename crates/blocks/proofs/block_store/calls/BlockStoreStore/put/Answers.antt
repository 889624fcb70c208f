use Rattle.std.proofs.Common.{◌≡◌, ◌<◌, ◌≤◌, false, true, Some, None, vec_items, sym, refl, ap, ◌∙◌, arith, rules}
use Rattle.std.proofs.lemmas.List.{with_items_is}
use Rattle.store.specs.Answers.{answer_number}
use Rattle.store.specs.Lent.{report_of}
use Rattle.store.specs.Reports.{Report, newest_number, unfit, put_number}
use Rattle.store.proofs.Puts.{put_full}
use Rattle.blocks.specs.Blocks.{held_in}
use Rattle.blocks.proofs.Changes.{newest_seen, full_seen, taken_by, put_unfit, put_stale, refused_bytes, refused_list, stored, store_room}
use Rattle.blocks.proofs.block_store.calls.BlockStoreStore.put.Goals as goal

pub returns-then-report-eq0-clause-bytes : goal.returns-then-report-eq0-clause-bytes
returns-then-report-eq0-clause-bytes c =
    let st = c.args.self.now in
    let r : Report = report_of c.args.report in
    let bad : unfit r ≡ true = search rules in
    refused_bytes st.blocks (vec_items st.bytes) r 3 (put_unfit (held_in st.blocks (vec_items st.bytes)) st.blocks r bad) refl

pub returns-then-is_some_and : goal.returns-then-is_some_and
returns-then-is_some_and c =
    let st = c.args.self.now in
    let r : Report = report_of c.args.report in
    let fit : unfit r ≡ false = search rules in
    let cut = c.blocks-2.ensures.cut in
    let newest = newest_seen st _ _ cut cut c.highest_number.result c.highest_number.ensures in
    let held = held_in st.blocks (vec_items st.bytes) in
    let older : r.number ≤ newest_number held = search rules in
    let a : put_number held st.blocks r ≡ 2 = put_stale held st.blocks r fit older in
    record { answer = sym a; list = refused_list st.blocks (vec_items st.bytes) r 2 a refl; same = refl; bytes = refused_bytes st.blocks (vec_items st.bytes) r 2 a refl }

pub returns-in_err-place : goal.returns-in_err-place
returns-in_err-place c =
    let st = c.args.self.now in
    let r : Report = report_of c.args.report in
    let fit : unfit r ≡ false = search rules in
    let cut = c.blocks-2.ensures.cut in
    let newest = newest_seen st _ _ cut cut c.highest_number.result c.highest_number.ensures in
    let held = held_in st.blocks (vec_items st.bytes) in
    let newer : newest_number held < r.number = search rules in
    let none : None ≡ c.place_of.result = search rules in
    let full = full_seen st _ _ cut c.blocks-3.ensures.cut (none ∙ c.place_of.ensures) in
    let a : put_number held st.blocks r ≡ 1 = put_full held st.blocks r fit newer full in
    let one : answer_number c.from_residual.result ≡ 1 = search rules in
    record {
      answer = one ∙ sym a;
      list = refused_list st.blocks (vec_items st.bytes) r 1 a refl;
      same = refl;
      bytes = refused_bytes st.blocks (vec_items st.bytes) r 1 a refl;
    }

pub invariant_of-self : goal.invariant_of-self
invariant_of-self c =
    let st = c.args.self.now in
    let r : Report = report_of c.args.report in
    let fit : unfit r ≡ false = search rules in
    let cut = c.blocks-2.ensures.cut in
    let newest = newest_seen st _ _ cut cut c.highest_number.result c.highest_number.ensures in
    let newer : newest_number (held_in st.blocks (vec_items st.bytes)) < r.number = search rules in
    let place : Some c.in_ok-place.place ≡ c.place_of.result = search rules in
    let t =
    taken_by st _ _ cut c.blocks-3.ensures.cut r c.in_ok-place.place c.deref_mut.result.now c.copy_at.new.out c.block_of.result c.copy_at.result fit (omega arith) newer
    (place ∙ c.place_of.ensures) c.deref_mut.ensures.value c.block_of.ensures c.copy_at.ensures.fits c.copy_at.ensures.after in
    let s = stored st c.copy_at.new.out (omega arith) t.sound in
    record { room = store_room st c.copy_at.new.out s; whole = s.whole; apart = s.apart; anew = s.anew }

pub returns : goal.returns
returns c =
    let st = c.args.self.now in
    let r : Report = report_of c.args.report in
    let fit : unfit r ≡ false = search rules in
    let cut = c.blocks-2.ensures.cut in
    let newest = newest_seen st _ _ cut cut c.highest_number.result c.highest_number.ensures in
    let newer : newest_number (held_in st.blocks (vec_items st.bytes)) < r.number = search rules in
    let place : Some c.in_ok-place.place ≡ c.place_of.result = search rules in
    let t =
    taken_by st _ _ cut c.blocks-3.ensures.cut r c.in_ok-place.place c.deref_mut.result.now c.copy_at.new.out c.block_of.result c.copy_at.result fit (omega arith) newer
    (place ∙ c.place_of.ensures) c.deref_mut.ensures.value c.block_of.ensures c.copy_at.ensures.fits c.copy_at.ensures.after in
    let items = with_items_is st.bytes c.copy_at.new.out (omega arith) in
    record { answer = sym t.answer; list = ap (held_in st.blocks) items ∙ t.list; same = refl; bytes = items ∙ t.bytes }
