-- What a put and a removal leave of sound blocks.
use Rattle.std.proofs.Common.{◌≡◌, ℕ, ◌+◌, ◌*◌, ◌/◌, ◌^◌, ◌<◌, ◌≤◌, min, max, Bool, true, false, cond, ◌&&◌, eqb, ltb, leb, List, [], ◌∷◌, ◌++◌, length, get_or, set, Some, None, Option, unwrap_or, vec_items, vec_len, sym, refl, ap, ◌∙◌, subst, inl, inr, arith}
use Rattle.std.specs.List.{position, reduce}
use Rattle.std.specs.Vec.{with_items}
use Rattle.std.proofs.lemmas.List.{length-replicate, with_items_is}
use Rattle.std.proofs.lemmas.Bool.{cond-true, cond-false, cond_both, cases_cond, and_from, and_parts, or_parts, or_left, or_right, le-leb, ltb-false}
use Rattle.octets.specs.Places.{placed}
use Rattle.octets.proofs.Placing.{length_placed}
use Rattle.store.specs.Reports.{Report, oldest_number, newest_number, unfit, put_number, after_put, after_remove}
use Rattle.store.specs.Answers.{Reads}
use Rattle.store.specs.declared.answers.Copied.{Copied}
use Rattle.store.proofs.Puts.{put_taken, after_taken}
use Rattle.store.proofs.Reading.{read_longer}
use Rattle.blocks.specs.Layout.{all_zero, written, number_in, report_in, block_of, free_block}
use Rattle.blocks.specs.Blocks.{blocks_of, by_number, intact, has_number, distinct, place_of, first_free, capacity_of, held_in, bytes_after_put, bytes_after_remove, numbers, freed}
use Rattle.blocks.specs.declared.block_store.BlockStore.{BlockStore}
use Rattle.blocks.proofs.Layouts.{zeros, length_block, number_is, written_is, report_is}
use Rattle.blocks.proofs.Cutting.{length_blocks, blocks_placed}
use Rattle.blocks.proofs.Scanning.{place_found, place_missing, oldest_is, newest_is}
use Rattle.blocks.proofs.Held.{Oldest, oldest_block, put_last, new_number, intact_set, distinct_set, first_free_is, held_room, held_full, used_is}

-- n blocks lie within the bytes, are intact, differ in their numbers, and n is the capacity
pub record Sound (n : ℕ) (xs : List ℕ) : Type 0 where
  pub room : n * 512 ≤ length xs
  pub whole : intact (blocks_of n xs) ≡ true
  pub apart : distinct (blocks_of n xs) ≡ true
  pub anew : capacity_of xs ≡ n

-- as many blocks as the capacity are sound
pub sound_capacity : (xs : List ℕ) → Sound (capacity_of xs) xs
unfolding capacity_of blocks_of intact distinct
sound_capacity xs =
    let n = length xs / 512 in
    let t = intact (blocks_of n xs) && distinct (blocks_of n xs) in
    cond_both t n 0 (λ m. Sound m xs)
    (λ e. let p = and_parts (intact (blocks_of n xs)) (distinct (blocks_of n xs)) e in record { room = omega arith; whole = p.0; apart = p.1; anew = cond-true t n 0 e })
    (λ e. record { room = omega arith; whole = refl; apart = refl; anew = cond-false t n 0 e })

-- bytes stay sound where they change within a length into intact blocks with distinct numbers
sound_kept : (n : ℕ) (xs ys : List ℕ) → Sound n xs → 0 < n → length ys ≡ length xs → intact (blocks_of n ys) ≡ true → distinct (blocks_of n ys) ≡ true → Sound n ys
unfolding capacity_of
sound_kept n xs ys s some l w d =
    let m = length xs / 512 in
    let r = s.room in
    let whole : m ≡ n =
    elim (cases_cond (intact (blocks_of m xs) && distinct (blocks_of m xs)) m 0 n (sym s.anew)) [ inl q ↦ sym q | inr q ↦ absurd (omega arith) ] in
    let same : length ys / 512 ≡ n = ap (λ j. j / 512) l ∙ whole in
    let ok = and_from (intact (blocks_of n ys)) (distinct (blocks_of n ys)) w d in
    record {
      room = omega arith;
      whole = w;
      apart = d;
      anew =
          ap (λ j. cond (intact (blocks_of j ys) && distinct (blocks_of j ys)) j 0) same
          ∙ cond-true (intact (blocks_of n ys) && distinct (blocks_of n ys)) n 0 ok;
    }

-- ---- a put that is refused

pub put_unfit : (held : List Report) (n : ℕ) (r : Report) → unfit r ≡ true → put_number held n r ≡ 3
put_unfit held n r e = cond-true (unfit r) 3 _ e

pub put_stale : (held : List Report) (n : ℕ) (r : Report) → unfit r ≡ false → r.number ≤ newest_number held → put_number held n r ≡ 2
put_stale held n r e h = cond-false (unfit r) 3 _ e ∙ cond-true (leb r.number (newest_number held)) 2 _ (le-leb r.number (newest_number held) h)

-- an answer above 0 leaves the list and the bytes
module _ (n : ℕ) (xs : List ℕ) (r : Report) (a : ℕ) (answer : put_number (held_in n xs) n r ≡ a) (refused : eqb a 0 ≡ false) where
  pub refused_list : held_in n xs ≡ after_put (held_in n xs) n r
  refused_list = sym (ap (λ (m : ℕ). cond (eqb m 0) (held_in n xs ++ (r ∷ [])) (held_in n xs)) answer ∙ cond-false (eqb a 0) _ _ refused)

  pub refused_bytes : xs ≡ bytes_after_put n xs r
  unfolding bytes_after_put
  refused_bytes =
      sym (ap (λ (m : ℕ). cond (eqb m 0) (placed xs (first_free (blocks_of n xs) * 512) (block_of r)) xs) answer ∙ cond-false (eqb a 0) _ _ refused)

-- ---- a put, k being the place of the first block with number 0

module _ (n : ℕ) (xs : List ℕ) (s : Sound n xs) (k : ℕ) (place : k ≡ place_of 0 (blocks_of n xs)) where
  first_is : first_free (blocks_of n xs) ≡ k
  first_is = first_free_is (blocks_of n xs) s.whole ∙ sym place

  -- no block is free: the list is at capacity
  full_list : n ≤ k → n ≤ length (held_in n xs)
  unfolding held_in
  full_list h =
      let l = length_blocks n xs in
      let f : length (blocks_of n xs) ≤ length (by_number (blocks_of n xs)) = held_full (blocks_of n xs) s.whole (omega arith) in
      omega arith

  module _ (r : Report) (fit : unfit r ≡ false) (fits : r.number < 2 ^ 32) (newer : newest_number (held_in n xs) < r.number) (here : k < n) where
    some : r.number ≡ 0 → ⊥
    some e = omega arith

    short : length r.body ≤ 480
    short = ltb-false 480 (length r.body) (or_parts (eqb r.number 0) (ltb 480 (length r.body)) fit).1

    newer_blocks : newest_number (by_number (blocks_of n xs)) < r.number
    unfolding held_in
    newer_blocks = newer

    room_left : length (held_in n xs) < n
    unfolding held_in
    room_left =
        let l = length_blocks n xs in
        let f : length (by_number (blocks_of n xs)) < length (blocks_of n xs) = held_room (blocks_of n xs) s.whole (omega arith) in
        omega arith

    cut : blocks_of n (placed xs (k * 512) (block_of r)) ≡ set (blocks_of n xs) k (block_of r)
    cut = blocks_placed n k xs (block_of r) (length_block r short) here s.room

    taken_answer : put_number (held_in n xs) n r ≡ 0
    taken_answer = put_taken (held_in n xs) n r fit newer room_left

    taken_bytes : placed xs (k * 512) (block_of r) ≡ bytes_after_put n xs r
    unfolding bytes_after_put
    taken_bytes =
        ap (λ j. placed xs (j * 512) (block_of r)) (sym first_is)
        ∙ sym (ap (λ (m : ℕ). cond (eqb m 0) (placed xs (first_free (blocks_of n xs) * 512) (block_of r)) xs) taken_answer)

    taken_list : held_in n (placed xs (k * 512) (block_of r)) ≡ after_put (held_in n xs) n r
    unfolding held_in
    taken_list =
        let f = first_is in
        let l = length_blocks n xs in
        ap by_number (cut ∙ ap (λ j. set (blocks_of n xs) j (block_of r)) (sym f))
        ∙ (put_last (blocks_of n xs) (block_of r) r s.whole (used_is (block_of r) (written_is r some fits short)) (report_is r some fits short) newer_blocks (omega arith)
        ∙ sym (after_taken (by_number (blocks_of n xs)) n r fit newer_blocks room_left))

    taken_sound : Sound n (placed xs (k * 512) (block_of r))
    taken_sound =
        let blk = block_of r in
        let l = length_block r short in
        let q = s.room in
        let within : k * 512 + length blk ≤ length xs = omega arith in
        let new : has_number (number_in blk) (blocks_of n xs) ≡ false =
        ap (λ m. has_number m (blocks_of n xs)) (number_is r some fits short) ∙ new_number r.number (blocks_of n xs) s.whole newer_blocks in
        sound_kept n xs (placed xs (k * 512) blk) s (omega arith) (length_placed xs (k * 512) blk within)
        (ap intact cut ∙ intact_set (blocks_of n xs) k blk s.whole (or_right (all_zero blk) (written blk) (written_is r some fits short)))
        (ap distinct cut ∙ distinct_set (blocks_of n xs) k blk s.whole s.apart (inr new))

-- what a put that is taken leaves, ys being the bytes after it
pub record Taken (n : ℕ) (xs ys : List ℕ) (r : Report) : Type 0 where
  pub answer : put_number (held_in n xs) n r ≡ 0
  pub list : held_in n ys ≡ after_put (held_in n xs) n r
  pub bytes : ys ≡ bytes_after_put n xs r
  pub sound : Sound n ys

taken : (n : ℕ) (xs ys : List ℕ) (r : Report) (k : ℕ) → Sound n xs → unfit r ≡ false → r.number < 2 ^ 32 → newest_number (held_in n xs) < r.number
    → k ≡ place_of 0 (blocks_of n xs) → k < n → ys ≡ placed xs (k * 512) (block_of r) → Taken n xs ys r
taken n xs ys r k s fit fits newer place here z =
    record {
      answer = taken_answer n xs s k place r fit fits newer here;
      list = ap (held_in n) z ∙ taken_list n xs s k place r fit fits newer here;
      bytes = z ∙ taken_bytes n xs s k place r fit fits newer here;
      sound = subst (λ x. Sound n x) (sym z) (taken_sound n xs s k place r fit fits newer here);
    }

-- ---- the oldest report

none_is : (rs : List Report) → None ≡ oldest_number rs → rs ≡ []
none_is [] e = refl
none_is (r ∷ rs) e = absurd (let z : ◌≡◌ {A = ℕ} 0 1 = cc in let x : ⊥ = omega arith in x)

-- the oldest of the reports, and the others
pub record First (rs : List Report) (n : ℕ) : Type 0 where
  pub report : Report
  pub others : List Report
  pub list : rs ≡ report ∷ others
  pub number : report.number ≡ n

some_is : (rs : List Report) (n : ℕ) → Some n ≡ oldest_number rs → First rs n
some_is [] n e = absurd (let z : ◌≡◌ {A = ℕ} 0 1 = cc in let x : ⊥ = omega arith in x)
some_is (r ∷ rs) n e = record { report = r; others = rs; list = refl; number = cc }

-- k being the place of the block with its number m
module _ (n : ℕ) (xs : List ℕ) (s : Sound n xs) (m : ℕ) (some : Some m ≡ oldest_number (held_in n xs)) (k : ℕ) (place : k ≡ place_of m (blocks_of n xs)) where
  first : First (held_in n xs) m
  first = some_is (held_in n xs) m some

  here : place_of m (blocks_of n xs) ≡ k
  here = sym place

  oldest : Oldest (blocks_of n xs) k first.report first.others
  unfolding held_in
  oldest =
      subst (λ j. Oldest (blocks_of n xs) j first.report first.others) (ap (λ j. place_of j (blocks_of n xs)) first.number ∙ here)
      (oldest_block (blocks_of n xs) first.report first.others s.whole s.apart first.list)

  within : k < n
  within = let l = oldest.within in omega (arith, length_blocks n xs)

  oldest_room : k * 512 + 512 ≤ length xs
  oldest_room = let l = within in let q = s.room in omega arith

  oldest_list : held_in n xs ≡ report_in (get_or (blocks_of n xs) k []) ∷ first.others
  oldest_list = first.list ∙ ap (λ x. x ∷ first.others) (sym oldest.report)

  -- a read of the oldest report is a read of the store
  oldest_read : (told : Option Copied) (before after : List ℕ) → Reads (report_in (get_or (blocks_of n xs) k []) ∷ []) told before after → Reads (held_in n xs) told before after
  oldest_read told before after p =
      subst (λ l. Reads l told before after) (sym oldest_list) (read_longer (report_in (get_or (blocks_of n xs) k [])) first.others told before after p)

  freed_cut : blocks_of n (placed xs (k * 512) free_block) ≡ set (blocks_of n xs) k free_block
  freed_cut = blocks_placed n k xs free_block (length-replicate {A = ℕ} 512 0) within s.room

  freed_bytes : placed xs (k * 512) free_block ≡ bytes_after_remove n xs
  unfolding freed
  freed_bytes =
      ap (λ j. placed xs (j * 512) free_block) (sym (ap (λ j. place_of j (blocks_of n xs)) first.number ∙ here)) ∙ sym (ap (freed n xs) first.list)

  freed_list : held_in n (placed xs (k * 512) free_block) ≡ after_remove (held_in n xs)
  unfolding held_in
  freed_list = ap by_number freed_cut ∙ (oldest.rest ∙ sym (ap after_remove first.list))

  freed_sound : Sound n (placed xs (k * 512) free_block)
  freed_sound =
      let l : length free_block ≡ 512 = length-replicate {A = ℕ} 512 0 in
      let h = within in
      let q = oldest_room in
      let inside : k * 512 + length free_block ≤ length xs = omega arith in
      sound_kept n xs (placed xs (k * 512) free_block) s (omega arith) (length_placed xs (k * 512) free_block inside)
      (ap intact freed_cut ∙ intact_set (blocks_of n xs) k free_block s.whole (or_left (all_zero free_block) (written free_block) (zeros 512)))
      (ap distinct freed_cut ∙ distinct_set (blocks_of n xs) k free_block s.whole s.apart (inl (zeros 512)))

-- the oldest report's block, at place k
pub record Found (n : ℕ) (xs : List ℕ) (k : ℕ) : Type 0 where
  pub within : k < n
  pub room : k * 512 + 512 ≤ length xs
  pub used : written (get_or (blocks_of n xs) k []) ≡ true
  pub read : (told : Option Copied) (before after : List ℕ) → Reads (report_in (get_or (blocks_of n xs) k []) ∷ []) told before after → Reads (held_in n xs) told before after
  pub list : held_in n (placed xs (k * 512) free_block) ≡ after_remove (held_in n xs)
  pub bytes : placed xs (k * 512) free_block ≡ bytes_after_remove n xs
  pub sound : Sound n (placed xs (k * 512) free_block)

found : (n : ℕ) (xs : List ℕ) (m k : ℕ) → Sound n xs → Some m ≡ oldest_number (held_in n xs) → k ≡ place_of m (blocks_of n xs) → Found n xs k
found n xs m k s e at =
    record {
      within = within n xs s m e k at;
      room = oldest_room n xs s m e k at;
      used = (oldest n xs s m e k at).used;
      read = oldest_read n xs s m e k at;
      list = freed_list n xs s m e k at;
      bytes = freed_bytes n xs s m e k at;
      sound = freed_sound n xs s m e k at;
    }

-- the oldest report has a block
not_missing : (n : ℕ) (xs : List ℕ) (m : ℕ) → Sound n xs → Some m ≡ oldest_number (held_in n xs) → length (blocks_of n xs) ≤ place_of m (blocks_of n xs) → ⊥
not_missing n xs m s e h = let f = found n xs m (place_of m (blocks_of n xs)) s e refl in omega (arith, f.within, length_blocks n xs)

-- a store's own bytes are sound
pub sound_store : (s : BlockStore) → Sound s.blocks (vec_items s.bytes)
sound_store s = let r = s.room in let l = s.bytes.ok.0 in record { room = omega arith; whole = s.whole; apart = s.apart; anew = s.anew }

-- a block copied to its place, where that is one of the store's
pub copied_in : (n : ℕ) (xs : List ℕ) (k : ℕ) → Sound n xs → k < n → (lent ys blk copy : List ℕ) (t : Bool) → lent ≡ xs → length blk ≡ 512 → copy ≡ blk
    → t ≡ leb (k * 512 + length copy) (length lent) → ys ≡ cond t (placed lent (k * 512) copy) lent → ys ≡ placed xs (k * 512) blk
copied_in n xs k s h lent ys blk copy t v l e f a =
    let r = s.room in
    let lc : length copy ≡ 512 = ap length e ∙ l in
    let lx : length lent ≡ length xs = ap length v in
    let w : ys ≡ placed lent (k * 512) copy = a ∙ cond-true t _ _ (f ∙ le-leb (k * 512 + length copy) (length lent) (omega arith)) in
    w ∙ (ap (λ x. placed x (k * 512) copy) v ∙ ap (placed xs (k * 512)) e)

-- bytes stored in place of a store's own
pub stored : (st : BlockStore) (ys : List ℕ) → length ys ≡ vec_len st.bytes → Sound st.blocks ys → Sound st.blocks (vec_items (with_items st.bytes ys))
stored st ys l s = subst (λ zs. Sound st.blocks zs) (sym (with_items_is st.bytes ys l)) s

pub store_room : (st : BlockStore) (ys : List ℕ) → Sound st.blocks (vec_items (with_items st.bytes ys)) → st.blocks * 512 ≤ vec_len (with_items st.bytes ys)
store_room st ys s = let r = st.room in omega arith

-- ---- from what the calls within a put, a read or a removal say, of the blocks as each of them saw them

module _ (st : BlockStore) (bs cs : List (List ℕ)) (seen : bs ≡ blocks_of st.blocks (vec_items st.bytes)) (seen' : cs ≡ blocks_of st.blocks (vec_items st.bytes)) where
  pub newest_seen : (o : Option ℕ) → o ≡ reduce max (numbers bs) → unwrap_or o 0 ≡ newest_number (held_in st.blocks (vec_items st.bytes))
  unfolding held_in
  newest_seen o e = ap (λ x. unwrap_or x 0) (e ∙ ap (λ x. reduce max (numbers x)) seen) ∙ newest_is (blocks_of st.blocks (vec_items st.bytes)) st.whole

  oldest_seen : (o : Option ℕ) → o ≡ reduce min (numbers bs) → o ≡ oldest_number (held_in st.blocks (vec_items st.bytes))
  unfolding held_in
  oldest_seen o e = e ∙ (ap (λ x. reduce min (numbers x)) seen ∙ oldest_is (blocks_of st.blocks (vec_items st.bytes)) st.whole)

  place_seen : (m : ℕ) (o : Option ℕ) → o ≡ position (λ b. eqb (number_in b) m) cs → o ≡ position (λ b. eqb (number_in b) m) (blocks_of st.blocks (vec_items st.bytes))
  place_seen m o e = e ∙ ap (position (λ b. eqb (number_in b) m)) seen'

  pub full_seen : None ≡ position (λ b. eqb (number_in b) 0) cs → st.blocks ≤ length (held_in st.blocks (vec_items st.bytes))
  full_seen e =
      let xs = vec_items st.bytes in
      let none = place_missing 0 (blocks_of st.blocks xs) (place_seen 0 None e) in
      full_list st.blocks xs (sound_store st) (place_of 0 (blocks_of st.blocks xs)) refl (omega (arith, none, length_blocks st.blocks xs))

  -- a put into the free block at place k
  pub taken_by : (r : Report) (k : ℕ) (lent out copy : List ℕ) (t : Bool) → unfit r ≡ false → r.number < 2 ^ 32 → newest_number (held_in st.blocks (vec_items st.bytes)) < r.number
      → Some k ≡ position (λ b. eqb (number_in b) 0) cs → lent ≡ vec_items st.bytes → copy ≡ block_of r
      → t ≡ leb (k * 512 + length copy) (length lent) → out ≡ cond t (placed lent (k * 512) copy) lent → Taken st.blocks (vec_items st.bytes) out r
  taken_by r k lent out copy t fit fits newer e v b f a =
      let n = st.blocks in
      let xs = vec_items st.bytes in
      let at = place_found 0 (blocks_of n xs) k (place_seen 0 (Some k) e) in
      let here : k < n = omega (arith, at.1, length_blocks n xs) in
      let short : length r.body ≤ 480 = ltb-false 480 (length r.body) (or_parts (eqb r.number 0) (ltb 480 (length r.body)) fit).1 in
      taken n xs out r k (sound_store st) fit fits newer at.0 here
      (copied_in n xs k (sound_store st) here lent out (block_of r) copy t v (length_block r short) b f a)

  -- the block at place k, which has the lowest number m
  pub found_by : (m k : ℕ) → Some m ≡ reduce min (numbers bs) → Some k ≡ position (λ b. eqb (number_in b) m) cs → Found st.blocks (vec_items st.bytes) k
  found_by m k e f =
      let xs = vec_items st.bytes in
      found st.blocks xs m k (sound_store st) (oldest_seen (Some m) e) (place_found m (blocks_of st.blocks xs) k (place_seen m (Some k) f)).0

  pub missing_by : (m : ℕ) → Some m ≡ reduce min (numbers bs) → None ≡ position (λ b. eqb (number_in b) m) cs → ⊥
  missing_by m e f =
      let xs = vec_items st.bytes in
      not_missing st.blocks xs m (sound_store st) (oldest_seen (Some m) e) (place_missing m (blocks_of st.blocks xs) (place_seen m None f))

  pub none_by : None ≡ reduce min (numbers bs) → held_in st.blocks (vec_items st.bytes) ≡ []
  none_by e = none_is (held_in st.blocks (vec_items st.bytes)) (oldest_seen None e)
