-- Items by their structure, and the bytes that they are.
use Rattle.std.specs.Prelude.{ℕ, suc, List, [], ◌++◌}
use Rattle.secs.specs.declared.format.Format.{Format}
use Rattle.items.specs.Encode.{list_bytes, value_bytes}

mutual
  -- a list of items, or a value of another format
  pub data Item : Type 0 where
    list : Items → Item
    value : Format → List ℕ → Item

  -- items one after the other
  pub data Items : Type 0 where
    end : Items
    ◌then◌ : Item → Items → Items

infixr 5 ◌then◌
-- how many items there are
abbrev pub count : Items → ℕ
count end = 0
count (i then is) = suc (count is)

abbrev mutual
  -- the bytes of an item
  pub bytes_of : Item → List ℕ
  bytes_of (list is) = list_bytes (count is) ++ bytes_of_all is
  bytes_of (value f content) = value_bytes f content

  -- the bytes of items one after the other
  pub bytes_of_all : Items → List ℕ
  bytes_of_all end = []
  bytes_of_all (i then is) = bytes_of i ++ bytes_of_all is
