-- The text of items, lists with their items in them.
use Rattle.std.specs.Prelude.{ℕ, zero, suc, cond, List, [], ◌++◌, length, Some, None, Ok, Err, codes, Option, Result, nat_lt}
use Rattle.frames.specs.Frames.{Parted, frame_at}
use Rattle.secs.specs.Elements.{is_list}
use Rattle.secs.specs.declared.item.Fault.{Fault}
use Rattle.items.specs.Decode.{Reading, item_at}
use Rattle.sml.specs.Texts.{headline, value_text, open_text, fault_text}

-- a text, and the place after the items that it shows; none where it breaks off
pub record Shown : Type 0 where
  pub text : List ℕ
  pub next : Option ℕ

abbrev pub shown : List ℕ → Option ℕ → Shown
shown t n = record { text = t; next = n }

-- what follows a text, from the place after it
abbrev pub follow : List ℕ → Option ℕ → (ℕ → Shown) → Shown
follow t None rest = shown t None
follow t (Some at) rest = shown (t ++ (rest at).text) (rest at).next

-- a list around its items
abbrev pub around : List ℕ → List ℕ → Option ℕ → Shown
around begin t None = shown (begin ++ t) None
around begin t (Some at) = shown (begin ++ (t ++ codes ">")) (Some at)

-- an item that was read at a place, or its fault; `inner` shows the items of a list
abbrev pub item_shown : (ℕ → ℕ → Shown) → ℕ → Result Reading Fault → Shown
item_shown inner at (Ok r) =
    cond (is_list r.format) (around (open_text r.size) (inner r.size r.next).text (inner r.size r.next).next)
    (shown (value_text r.format r.content) (Some r.next))
item_shown inner at (Err fault) = shown (fault_text at) None

-- n items from a place on
abbrev pub several : (ℕ → Shown) → ℕ → ℕ → Shown
several one zero at = shown [] (Some at)
several one (suc n) at = follow (one at).text (one at).next (several one n)

-- n items from a place on, with lists in one another up to a depth
unfoldable pub items_shown : ℕ → List ℕ → ℕ → ℕ → Shown
items_shown zero frame n at = shown (codes " ...") None
items_shown (suc depth) frame n at = several (λ a. item_shown (items_shown depth frame) a (item_at frame a)) n at

-- the text of a body: its item, if it has one
abbrev pub body_text : List ℕ → List ℕ
body_text frame = cond (nat_lt 10 (length frame)) (items_shown 16 frame 1 10).text []

-- the text of a frame, of which the header was read or not
abbrev pub parted_text : List ℕ → Option Parted → List ℕ
parted_text frame (Some p) = headline p.header.stream p.header.function p.header.wait ++ body_text frame
parted_text frame None = codes "no frame"

-- the text of a frame as the host gives it
abbrev pub frame_text : List ℕ → List ℕ
frame_text frame = parted_text frame (frame_at frame)
