use Rattle.std.proofs.Common.{◌≡◌, true, false, suc, ◌+◌, ◌-◌, ◌++◌, Some, None, string_bytes, codes, sym, refl, ap, ◌∙◌, arith}
use Rattle.std.proofs.lemmas.Grind.{common_steps}
use Rattle.std.proofs.lemmas.List.{append_assoc}
use Rattle.secs.specs.Elements.{is_list}
use Rattle.items.specs.Decode.{reading}
use Rattle.sml.specs.Texts.{value_text, open_text}
use Rattle.sml.specs.Nested.{Shown, items_shown}
use Rattle.sml.proofs.Steps.{piece_more, piece_none, three_pieces}
use Rattle.sml.proofs.Nesting.{none_deep, none_left, first_fault, first_value, list_shown}
use Rattle.sml.proofs.body.+push_items.Goals as goal
use Rattle.sml.proofs.body.+push_items.Goals.{then-eq+in_ok-push_open+in_ok-next+in-Some+in_ok-push_str-2, else-eq+in_ok-push_value}

pub returns-then-depth-eq0 : goal.returns-then-depth-eq0
returns-then-depth-eq0 t c =
    let a = c.args in
    let e = none_deep a.depth a.frame.now a.count a.at c.if-depth-eq0.true in
    record {
      bytes = c.in_ok-push_str.ensures.bytes ∙ ap (λ (s : Shown). string_bytes a.text.now ++ s.text) (sym e);
      place = sym (ap (λ (s : Shown). s.next) e);
    }

pub returns-in_default : goal.returns-in_default
returns-in_default t c =
    let a = c.args in
    let l = c.loop-turn in
    let deep : a.depth ≡ suc (a.depth - 1) = omega arith in
    let more : a.count - l._turn ≡ suc (a.count - (l._turn + 1)) = omega arith in
    let f = first_fault a.depth (a.depth - 1) a.frame.now (a.count - l._turn) (a.count - (l._turn + 1)) l.place deep more c.in_default.field-0 (sym c.in_default.ensures.item) in
    record {
      bytes = c.in_ok-push_fault.ensures ∙ (ap (λ (s : Shown). string_bytes l.text ++ s.text) (sym f) ∙ l.invariant.0);
      place = sym (ap (λ (s : Shown). s.next) f) ∙ l.invariant.1;
    }

pub returns-in_default-2 : goal.returns-in_default-2
returns-in_default-2 t c =
    let a = c.args in
    let l = c.loop-turn in
    let i = c.in-Ok.item in
    let r = reading i.format i.begin i.length i.content.now i.next in
    let deep : a.depth ≡ suc (a.depth - 1) = omega arith in
    let more : a.count - l._turn ≡ suc (a.count - (l._turn + 1)) = omega arith in
    let inner = items_shown (a.depth - 1) a.frame.now i.length i.next in
    let told = c.in_ok-next.ensures in
    let listed : is_list i.format ≡ true = grind (arith, common_steps) in
    let f = list_shown a.depth (a.depth - 1) a.frame.now (a.count - l._turn) (a.count - (l._turn + 1)) l.place deep more r (sym c.in-Ok.ensures.item)
    listed inner.text None refl (sym told.place ∙ c.in_default-2.is) in
    let b = told.bytes ∙ (ap (λ x. x ++ inner.text) c.in_ok-push_open.ensures ∙ append_assoc (string_bytes l.text) (open_text i.length) inner.text) in
    record {
      bytes = b ∙ (ap (λ (s : Shown). string_bytes l.text ++ s.text) (sym f) ∙ l.invariant.0);
      place = sym (ap (λ (s : Shown). s.next) f) ∙ l.invariant.1;
    }

pub returns : goal.returns
returns t c =
    let a = c.args in
    let l = c.loop-turn in
    let deep : a.depth ≡ suc (a.depth - 1) = omega arith in
    let done : a.count - l._turn ≡ 0 = omega arith in
    let e = none_left a.depth (a.depth - 1) a.frame.now (a.count - l._turn) l.place deep done in
    record {
      bytes = piece_none (string_bytes l.text) _ _ (ap (λ (s : Shown). s.text) e) l.invariant.0;
      place = sym (ap (λ (s : Shown). s.next) e) ∙ l.invariant.1;
    }

pub loop-turn-preserved : goal.loop-turn-preserved
loop-turn-preserved t c =
    let a = c.args in
    let l = c.loop-turn in
    let i = c.in-Ok.item in
    let r = reading i.format i.begin i.length i.content.now i.next in
    let D = a.depth in
    let fr = a.frame.now in
    let m = a.count - l._turn in
    let n = a.count - (l._turn + 1) in
    let old = string_bytes l.text in
    let deep : D ≡ suc (D - 1) = omega arith in
    let more : m ≡ suc n = omega arith in
    let read = sym c.in-Ok.ensures.item in
    elim c.if-eq.branch [
      | then-eq+in_ok-push_open+in_ok-next+in-Some+in_ok-push_str-2 w ↦
          let inner = items_shown (D - 1) fr i.length i.next in
          let told = w.in_ok-next.ensures in
          let nx = w.in-Some.next in
          let listed : is_list i.format ≡ true = grind (arith, common_steps) in
          let v = open_text i.length ++ (inner.text ++ codes ">") in
          let f = list_shown D (D - 1) fr m n l.place deep more r read listed inner.text (Some nx) refl (sym told.place ∙ w.in-Some.is) in
          let u : string_bytes c.if-eq.text ≡ old ++ v =
          ap string_bytes w.text-is
          ∙ three_pieces old (string_bytes w.push_open.new.text) (string_bytes w.push_items.new.text) (string_bytes w.push_str-then-eq.new.self) (open_text i.length) inner.text (codes ">")
          w.in_ok-push_open.ensures told.bytes w.in_ok-push_str-2.ensures.bytes in (
            piece_more old (string_bytes c.if-eq.text) v (items_shown D fr m l.place).text (items_shown D fr n c.if-eq.place).text _ u
                (ap (λ (s : Shown). s.text) f ∙ ap (λ p. v ++ (items_shown D fr n p).text) (sym w.place-is)) l.invariant.0,
            ap (λ p. (items_shown D fr n p).next) w.place-is ∙ (sym (ap (λ (s : Shown). s.next) f) ∙ l.invariant.1),
          )
      | else-eq+in_ok-push_value w ↦
          let other : is_list i.format ≡ false = grind (arith, common_steps) in
          let f = first_value D (D - 1) fr m n l.place deep more r read other in
          let v = value_text i.format i.content.now in
          let u : string_bytes c.if-eq.text ≡ old ++ v = ap string_bytes w.text-is ∙ w.in_ok-push_value.ensures in (
            piece_more old (string_bytes c.if-eq.text) v (items_shown D fr m l.place).text (items_shown D fr n c.if-eq.place).text _ u
                (ap (λ (s : Shown). s.text) f ∙ ap (λ p. v ++ (items_shown D fr n p).text) (sym w.place-is)) l.invariant.0,
            ap (λ p. (items_shown D fr n p).next) w.place-is ∙ (sym (ap (λ (s : Shown). s.next) f) ∙ l.invariant.1),
          )
    ]
