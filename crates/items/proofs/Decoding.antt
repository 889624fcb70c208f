-- What is written is read back.
use Rattle.std.proofs.Common.{◌≡◌, ℕ, ◌+◌, ◌-◌, ◌*◌, ◌/◌, ◌%◌, ◌<◌, ◌≤◌, true, false, cond, not, eqb, leb, List, [], ◌∷◌, ◌++◌, length, get_or, take, drop, is_some, Some, None, Ok, Err, Option, sym, refl, ap, ◌∙◌, subst, inl, inr, add-zero, arith}
use Rattle.std.specs.List.{between}
use Rattle.std.proofs.lemmas.List.{length-append, length-drop, get_or-drop, drop-drop, take_at, take-append-drop}
use Rattle.std.proofs.lemmas.Bool.{cond-true, cond-false, le-ltb, lt-leb, ne_eqb, cases_Bool, and_parts, leb-true, not-true, both_ways, true≢false}
use Rattle.octets.specs.Places.{placed}
use Rattle.octets.proofs.Placing.{drop_placed}
use Rattle.secs.specs.declared.format.Format.{Format}
use Rattle.secs.specs.declared.item.Fault.{Fault}
use Rattle.secs.specs.declared.format.Format.TheVariants as format
use Rattle.secs.specs.declared.item.Fault.TheVariants.{NoLength}
use Rattle.secs.specs.Formats.{code_of, format_of, CodeFound}
use Rattle.secs.specs.Elements.{is_list, content_fault}
use Rattle.items.specs.Encode.{longest, length_size, item_bytes, place_after, fits_at, list_bytes, value_bytes, writable, item_fits, item_end, item_written, list_end, list_written}
use Rattle.items.specs.Decode.{reading, length_at, judged, content_at, format_at, item_at}
use Rattle.items.specs.Laws.{Holds, ListBack, ItemBack}
use Rattle.items.proofs.Encoding.{Sized, one, two, three, sized, length_item}

-- what an item can be: a list has no content of its own; any other item's length is that of its content, which has no fault
record Sound (f : Format) (n : ℕ) (content : List ℕ) : Type 0 where
  small : n ≤ longest
  empty : is_list f ≡ true → content ≡ []
  long : is_list f ≡ false → length content ≡ n
  whole : is_list f ≡ false → content_fault f content ≡ None

code_found : CodeFound
code_found format.List = refl
code_found format.Binary = refl
code_found format.Ascii = refl
code_found format.U1 = refl
code_found format.I4 = refl
code_found format.F4 = refl
code_found format.U4 = refl

-- format byte and length are read
front : (frame : List ℕ) (at : ℕ) (f : Format) (k n : ℕ) → get_or frame at 0 ≡ code_of f * 4 + k → 0 < k → k < 4 → k < length frame - at → length_at k frame (at + 1) ≡ n
    → item_at frame at ≡ content_at frame f (at + 1 + k) n
front frame at f k n first low high within len =
    let b = get_or frame at 0 in
    let q : b / 4 ≡ code_of f = omega arith in
    let r : b % 4 ≡ k = omega arith in
    let nk : k ≡ 0 → ⊥ = λ e. omega arith in
    cond-false _ _ _ (lt-leb (length frame) at (omega arith))
    ∙ (ap (λ x. cond (eqb x 0) (Err NoLength) (format_at frame at x (format_of (b / 4)))) r
    ∙ (cond-false _ _ _ (ne_eqb k 0 nk)
    ∙ (ap (λ x. format_at frame at k (format_of x)) q
    ∙ (ap (format_at frame at k) (code_found f)
    ∙ (cond-false _ _ _ (lt-leb (length frame - at) k within)
    ∙ ap (content_at frame f (at + 1 + k)) len)))))

-- then the content
content_read : (frame : List ℕ) (f : Format) (begin n : ℕ) (content rest : List ℕ) → Sound f n content → drop begin frame ≡ content ++ rest
    → content_at frame f begin n ≡ Ok (reading f begin n content (begin + length content))
content_read frame f begin n content rest s here =
    elim (cases_Bool (is_list f)) [
      | inl e ↦ cond-true _ _ _ e
          ∙ (ap (λ u. Ok (reading f begin n [] u)) (sym (add-zero begin)) ∙ ap (λ xs. Ok (reading f begin n xs (begin + length xs))) (sym (s.empty e)))
      | inr e ↦
          let l : length frame - begin ≡ length content + length rest = sym (length-drop begin frame) ∙ (ap length here ∙ length-append content rest) in
          let long = s.long e in
          let m : begin + n - begin ≡ n = omega arith in
          let cut : between begin (begin + n) frame ≡ content = ap (λ x. take x (drop begin frame)) m ∙ (ap (take n) here ∙ take_at content rest n long) in
          cond-false _ _ _ e
          ∙ (cond-false _ _ _ (le-ltb (length frame - begin) n (omega arith))
          ∙ (ap (λ xs. judged f begin n xs (content_fault f xs)) cut
          ∙ (ap (judged f begin n content) (s.whole e) ∙ ap (λ x. Ok (reading f begin n content (begin + x))) (sym long))))
    ]

module _ (frame : List ℕ) (at : ℕ) (f : Format) (n : ℕ) (content rest : List ℕ) (s : Sound f n content) where
  -- a frame that goes on with a format byte, k length bytes and the content
  goes_on : (k : ℕ) (bs : List ℕ) → drop at frame ≡ (code_of f * 4 + k) ∷ bs → 0 < k → k < 4 → length bs ≡ k + length (content ++ rest) → drop k bs ≡ content ++ rest
      → length_at k frame (at + 1) ≡ n → item_at frame at ≡ Ok (reading f (at + 1 + k) n content (at + 1 + k + length content))
  goes_on k bs here low high long back len =
      let l : length frame - at ≡ 1 + length bs = sym (length-drop at frame) ∙ (ap length here ∙ (omega arith)) in
      let b : get_or frame at 0 ≡ code_of f * 4 + k = ap (λ i. get_or frame i 0) (sym (add-zero at)) ∙ (sym (get_or-drop at frame 0 0) ∙ ap (λ x. get_or x 0 0) here) in
      let d : drop (at + 1 + k) frame ≡ content ++ rest = sym (drop-drop k (at + 1) frame) ∙ (ap (drop k) (sym (drop-drop 1 at frame) ∙ ap (drop 1) here) ∙ back) in
      front frame at f k n b low high (omega arith) len ∙ content_read frame f (at + 1 + k) n content rest s d

  -- a length byte of the frame
  byte_at : (bs : List ℕ) (i j : ℕ) → drop at frame ≡ bs → j ≡ at + i → get_or frame j 0 ≡ get_or bs i 0
  byte_at bs i j here e = ap (λ x. get_or frame x 0) e ∙ (sym (get_or-drop at frame i 0) ∙ ap (λ x. get_or x i 0) here)

  read_of : drop at frame ≡ item_bytes f n content ++ rest → Sized n → item_at frame at ≡ Ok (reading f (at + 1 + length_size n) n content (at + 1 + length_size n + length content))
  read_of here (one a z b) =
      let bs = (code_of f * 4 + 1) ∷ n ∷ (content ++ rest) in
      let e : drop at frame ≡ bs = here ∙ rw (z, b) refl in
      goes_on 1 (n ∷ (content ++ rest)) e (omega arith) (omega arith) (omega arith) refl (byte_at bs 1 (at + 1) e refl)
      ∙ ap (λ k. Ok (reading f (at + 1 + k) n content (at + 1 + k + length content))) (sym z)
  read_of here (two a a' z b) =
      let bs = (code_of f * 4 + 2) ∷ (n / 256) ∷ (n % 256) ∷ (content ++ rest) in
      let e : drop at frame ≡ bs = here ∙ rw (z, b) refl in
      let x = byte_at bs 1 (at + 1) e refl in
      let y = byte_at bs 2 (at + 1 + 1) e (omega arith) in
      goes_on 2 ((n / 256) ∷ (n % 256) ∷ (content ++ rest)) e (omega arith) (omega arith) (omega arith) refl (omega arith)
      ∙ ap (λ k. Ok (reading f (at + 1 + k) n content (at + 1 + k + length content))) (sym z)
  read_of here (three a z b) =
      let bs = (code_of f * 4 + 3) ∷ (n / 65536) ∷ (n / 256 % 256) ∷ (n % 256) ∷ (content ++ rest) in
      let e : drop at frame ≡ bs = here ∙ rw (z, b) refl in
      let x = byte_at bs 1 (at + 1) e refl in
      let y = byte_at bs 2 (at + 1 + 1) e (omega arith) in
      let w = byte_at bs 3 (at + 1 + 2) e (omega arith) in
      goes_on 3 ((n / 65536) ∷ (n / 256 % 256) ∷ (n % 256) ∷ (content ++ rest)) e (omega arith) (omega arith) (omega arith) refl (omega arith)
      ∙ ap (λ k. Ok (reading f (at + 1 + k) n content (at + 1 + k + length content))) (sym z)

-- a frame that has bytes at a place goes on with them
holds_drop : (frame : List ℕ) (at : ℕ) (bs : List ℕ) → Holds frame at bs → drop at frame ≡ bs ++ drop (length bs) (drop at frame)
holds_drop frame at bs h =
    let m : at + length bs - at ≡ length bs = omega arith in
    sym (take-append-drop (length bs) (drop at frame)) ∙ ap (λ x. x ++ drop (length bs) (drop at frame)) (ap (λ x. take x (drop at frame)) (sym m) ∙ h)

-- an item that is in a frame at a place is read there, with its place
reads_back : (frame : List ℕ) (at : ℕ) (f : Format) (n : ℕ) (content : List ℕ) → Sound f n content → Holds frame at (item_bytes f n content)
    → item_at frame at ≡ Ok (reading f (at + 1 + length_size n) n content (at + length (item_bytes f n content)))
reads_back frame at f n content s h =
    let l = length_item f n content in
    let p : at + 1 + length_size n + length content ≡ at + length (item_bytes f n content) = omega arith in
    read_of frame at f n content (drop (length (item_bytes f n content)) (drop at frame)) s (holds_drop frame at (item_bytes f n content) h) (sized n)
    ∙ ap (λ x. Ok (reading f (at + 1 + length_size n) n content x)) p

-- what was written into a buffer is there
holds_placed : (xs : List ℕ) (at : ℕ) (bs : List ℕ) → at + length bs ≤ length xs → Holds (placed xs at bs) at bs
holds_placed xs at bs h =
    let m : at + length bs - at ≡ length bs = omega arith in
    ap (λ n. take n (drop at (placed xs at bs))) m ∙ (ap (take (length bs)) (drop_placed xs at bs (omega arith)) ∙ take_at bs _ (length bs) refl)

-- an item that was written where it fits is read back
item_back : (xs : List ℕ) (at : ℕ) (f : Format) (n : ℕ) (content : List ℕ) → Sound f n content → at + length (item_bytes f n content) ≤ length xs
    → item_at (placed xs at (item_bytes f n content)) at ≡ Ok (reading f (at + length (item_bytes f n content) - length content) n content (at + length (item_bytes f n content)))
item_back xs at f n content s h =
    let bs = item_bytes f n content in
    let l = length_item f n content in
    let b : at + 1 + length_size n ≡ at + length bs - length content = omega arith in
    reads_back (placed xs at bs) at f n content s (holds_placed xs at bs h) ∙ ap (λ x. Ok (reading f x n content (at + length bs))) b

back_of_list : (xs : List ℕ) (at n : ℕ) → ListBack (list_written xs at n) at n (list_end xs at n)
back_of_list xs at n =
    elim (cases_Bool (fits_at xs at n (list_bytes n))) [
      | inl e ↦
          let p = and_parts (leb n longest) (leb (at + length (list_bytes n)) (length xs)) e in
          let small = leb-true n longest p.0 in
          let room = leb-true (at + length (list_bytes n)) (length xs) p.1 in
          let none : at + length (list_bytes n) - 0 ≡ at + length (list_bytes n) = omega arith in
          let s : Sound format.List n [] = record { small = small; empty = λ _. refl; long = λ x. absurd (true≢false x); whole = λ x. absurd (true≢false x) } in
          subst (λ b. ListBack (cond b (placed xs at (list_bytes n)) xs) at n (place_after b at (list_bytes n))) (sym e)
          (item_back xs at format.List n [] s room ∙ ap (λ x. Ok (reading format.List x n [] (at + length (list_bytes n)))) none)
      | inr e ↦ subst (λ b. ListBack (cond b (placed xs at (list_bytes n)) xs) at n (place_after b at (list_bytes n))) (sym e) tt
    ]

none_of : (o : Option Fault) → is_some o ≡ false → o ≡ None
none_of None h = refl
none_of (Some x) h = absurd (true≢false h)

back_of_value : (xs : List ℕ) (at : ℕ) (f : Format) (content : List ℕ) → ItemBack (item_written xs at f content) at f content (item_end xs at f content)
back_of_value xs at f content =
    let bs = value_bytes f content in
    elim (cases_Bool (item_fits xs at f content)) [
      | inl e ↦
          let p = and_parts (writable f content) (fits_at xs at (length content) bs) e in
          let q = and_parts (leb (length content) longest) (leb (at + length bs) (length xs)) p.1 in
          let w = and_parts (not (is_list f)) (not (is_some (content_fault f content))) p.0 in
          let other = not-true (is_list f) w.0 in
          let good = none_of (content_fault f content) (not-true (is_some (content_fault f content)) w.1) in
          let s : Sound f (length content) content = record {
            small = leb-true (length content) longest q.0;
            empty = λ x. absurd (both_ways (is_list f) other x);
            long = λ _. refl;
            whole = λ _. good;
          } in
          subst (λ b. ItemBack (cond b (placed xs at bs) xs) at f content (place_after b at bs)) (sym e)
          (item_back xs at f (length content) content s (leb-true (at + length bs) (length xs) q.1))
      | inr e ↦ subst (λ b. ItemBack (cond b (placed xs at bs) xs) at f content (place_after b at bs)) (sym e) tt
    ]

-- what a writer answers and leaves

pub list_back : (xs : List ℕ) (at n : ℕ) (answer : Option ℕ) (ys : List ℕ) → answer ≡ list_end xs at n → ys ≡ list_written xs at n → ListBack ys at n answer
list_back xs at n answer ys place after = subst (λ ys. ListBack ys at n answer) (sym after) (subst (ListBack (list_written xs at n) at n) (sym place) (back_of_list xs at n))

pub value_back : (xs : List ℕ) (at : ℕ) (f : Format) (content : List ℕ) (answer : Option ℕ) (ys : List ℕ) → answer ≡ item_end xs at f content → ys ≡ item_written xs at f content
    → ItemBack ys at f content answer
value_back xs at f content answer ys place after =
    subst (λ ys. ItemBack ys at f content answer) (sym after) (subst (ItemBack (item_written xs at f content) at f content) (sym place) (back_of_value xs at f content))
