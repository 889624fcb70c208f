-- The text of several items, by what the first of them is.
use Rattle.std.proofs.Common.{◌≡◌, ℕ, suc, true, false, List, [], ◌++◌, Some, None, Ok, Err, codes, Option, Result, sym, ap, ◌∙◌}
use Rattle.std.proofs.lemmas.Bool.{cond-true, cond-false}
use Rattle.secs.specs.Elements.{is_list}
use Rattle.secs.specs.declared.item.Fault.{Fault}
use Rattle.items.specs.Decode.{Reading, item_at}
use Rattle.sml.specs.Texts.{value_text, open_text, fault_text}
use Rattle.sml.specs.Nested.{shown, follow, around, item_shown, items_shown}

pub none_deep : (depth : ℕ) (frame : List ℕ) (n a : ℕ) → depth ≡ 0 → items_shown depth frame n a ≡ shown (codes " ...") None
unfolding items_shown
none_deep depth frame n a e = ap (λ d. items_shown d frame n a) e

pub none_left : (depth d : ℕ) (frame : List ℕ) (m a : ℕ) → depth ≡ suc d → m ≡ 0 → items_shown depth frame m a ≡ shown [] (Some a)
unfolding items_shown
none_left depth d frame m a e z = ap (λ x. items_shown x frame m a) e ∙ ap (λ x. items_shown (suc d) frame x a) z

module _ (depth d : ℕ) (frame : List ℕ) (m n a : ℕ) (deep : depth ≡ suc d) (more : m ≡ suc n) where
  first : items_shown depth frame m a
      ≡ follow (item_shown (items_shown d frame) a (item_at frame a)).text (item_shown (items_shown d frame) a (item_at frame a)).next (items_shown (suc d) frame n)
  unfolding items_shown
  first = ap (λ x. items_shown x frame m a) deep ∙ ap (λ x. items_shown (suc d) frame x a) more

  as_read : (i : Result Reading Fault) → item_at frame a ≡ i
      → items_shown depth frame m a ≡ follow (item_shown (items_shown d frame) a i).text (item_shown (items_shown d frame) a i).next (items_shown depth frame n)
  as_read i e =
      first
      ∙ (ap (λ x. follow (item_shown (items_shown d frame) a x).text (item_shown (items_shown d frame) a x).next (items_shown (suc d) frame n)) e
      ∙ ap (λ x. follow (item_shown (items_shown d frame) a i).text (item_shown (items_shown d frame) a i).next (items_shown x frame n)) (sym deep))

  pub first_fault : (e : Fault) → item_at frame a ≡ Err e → items_shown depth frame m a ≡ shown (fault_text a) None
  first_fault e h = as_read (Err e) h

  pub first_value : (r : Reading) → item_at frame a ≡ Ok r → is_list r.format ≡ false
      → items_shown depth frame m a ≡ shown (value_text r.format r.content ++ (items_shown depth frame n r.next).text) (items_shown depth frame n r.next).next
  first_value r h e =
      as_read (Ok r) h
      ∙ ap (λ s. follow s.text s.next (items_shown depth frame n)) (cond-false (is_list r.format) _ (shown (value_text r.format r.content) (Some r.next)) e)

  -- a list, with what its items show
  pub list_shown : (r : Reading) → item_at frame a ≡ Ok r → is_list r.format ≡ true → (t : List ℕ) (o : Option ℕ) → (items_shown d frame r.size r.next).text ≡ t → (items_shown d frame r.size r.next).next ≡ o
      → items_shown depth frame m a ≡ follow (around (open_text r.size) t o).text (around (open_text r.size) t o).next (items_shown depth frame n)
  list_shown r h e t o p q =
      as_read (Ok r) h
      ∙ (ap (λ s. follow s.text s.next (items_shown depth frame n))
      (cond-true (is_list r.format) (around (open_text r.size) (items_shown d frame r.size r.next).text (items_shown d frame r.size r.next).next) _ e)
      ∙ (ap (λ x. follow (around (open_text r.size) x (items_shown d frame r.size r.next).next).text (around (open_text r.size) x (items_shown d frame r.size r.next).next).next (items_shown depth frame n)) p
      ∙ ap (λ x. follow (around (open_text r.size) t x).text (around (open_text r.size) t x).next (items_shown depth frame n)) q))
