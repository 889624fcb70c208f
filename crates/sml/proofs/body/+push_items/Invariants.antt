use Rattle.std.proofs.Common.{◌≡◌, ◌-◌, ◌++◌, string_bytes}
use Rattle.sml.specs.Nested.{items_shown}
use Rattle.sml.proofs.body.+push_items.Given as goal

abbrev pub decreases-push_items : goal.decreases-push_items
decreases-push_items l = l.depth

abbrev pub invariant-loop-turn : goal.invariant-loop-turn
invariant-loop-turn l =
    (string_bytes l.text ++ (items_shown l.depth l.frame (l.count - l._turn) l.place).text ≡ string_bytes l.initial.text ++ (items_shown l.depth l.frame l.count l.at).text)
    × ((items_shown l.depth l.frame (l.count - l._turn) l.place).next ≡ (items_shown l.depth l.frame l.count l.at).next)
