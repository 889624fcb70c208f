-- What is read with the fewest length bytes is what would be written.
use Rattle.std.proofs.Common.{◌≡◌, ℕ, ◌+◌, ◌-◌, ◌*◌, ◌/◌, ◌%◌, ◌<◌, ◌≤◌, Bool, true, false, cond, eqb, ltb, leb, List, [], ◌∷◌, ◌++◌, length, get_or, take, drop, Some, None, Ok, Err, Option, Result, sym, refl, ap, ◌∙◌, subst, inl, inr, add-zero, arith, take-add}
use Rattle.std.specs.List.{between, find}
use Rattle.std.proofs.lemmas.List.{length-drop, length-take, get_or-drop, drop-drop}
use Rattle.std.proofs.lemmas.Bool.{cond-true, cond-false, cases_Bool, eqb-true, leb-false, ltb-false}
use Rattle.secs.specs.declared.format.Format.{Format}
use Rattle.secs.specs.declared.item.Item.{Item}
use Rattle.secs.specs.declared.item.Fault.{Fault}
use Rattle.secs.specs.declared.item.Fault.TheVariants.{NoLength, PastEnd}
use Rattle.secs.specs.Formats.{code_of, every_format, format_of}
use Rattle.secs.specs.Elements.{is_list, content_fault}
use Rattle.items.specs.Encode.{length_size, head_bytes, item_bytes}
use Rattle.items.specs.Decode.{Reading, reading, length_at, judged, content_at, format_at, item_at, seen}
use Rattle.items.specs.Laws.{Holds, ShortestBack}
use Rattle.items.proofs.Encoding.{Sized, one, two, three, sized, length_item}

found_in : (code : ℕ) (fs : List Format) (f : Format) → find (λ g. eqb (code_of g) code) fs ≡ Some f → code_of f ≡ code
found_in code [] f h = absurd (let z : ◌≡◌ {A = ℕ} 0 1 = cc in let x : ⊥ = omega arith in x)
found_in code (g ∷ fs) f h =
    elim (cases_Bool (eqb (code_of g) code)) [
      | inl e ↦
          let s : ◌≡◌ {A = Option Format} (Some g) (Some f) = sym (cond-true (eqb (code_of g) code) _ _ e) ∙ h in
          let same : g ≡ f = cc in
          ap code_of (sym same) ∙ eqb-true (code_of g) code e
      | inr e ↦ found_in code fs f (sym (cond-false (eqb (code_of g) code) _ _ e) ∙ h)
    ]

-- ---- a reading that came out well passed each test

not_err : (b : Bool) (e : Fault) (y : Result Reading Fault) (r : Reading) → cond b (Err e) y ≡ Ok r → (b ≡ false) × (y ≡ Ok r)
not_err true e y r h = absurd (let z : ◌≡◌ {A = ℕ} 0 1 = cc in let x : ⊥ = omega arith in x)
not_err false e y r h = (refl, h)

same_reading : (p q : Reading) → ◌≡◌ {A = Result Reading Fault} (Ok p) (Ok q) → p ≡ q
same_reading p q h = cc

format_ok : (frame : List ℕ) (at k : ℕ) (o : Option Format) (r : Reading) → format_at frame at k o ≡ Ok r
    → (f : Format) × (o ≡ Some f) × (cond (leb (length frame - at) k) (Err PastEnd) (content_at frame f (at + 1 + k) (length_at k frame (at + 1))) ≡ Ok r)
format_ok frame at k None r h = absurd (let z : ◌≡◌ {A = ℕ} 0 1 = cc in let x : ⊥ = omega arith in x)
format_ok frame at k (Some f) r h = (f, refl, h)

judged_ok : (f : Format) (begin n : ℕ) (content : List ℕ) (o : Option Fault) (r : Reading) → judged f begin n content o ≡ Ok r → reading f begin n content (begin + n) ≡ r
judged_ok f begin n content None r h = same_reading _ r h
judged_ok f begin n content (Some e) r h = absurd (let z : ◌≡◌ {A = ℕ} 0 1 = cc in let x : ⊥ = omega arith in x)

-- ---- the first bytes of a list

take_2 : (bs : List ℕ) → 1 < length bs → take 2 bs ≡ get_or bs 0 0 ∷ get_or bs 1 0 ∷ []
take_2 [] h = absurd (omega arith)
take_2 (a ∷ []) h = absurd (omega arith)
take_2 (a ∷ (b ∷ bs)) h = refl

take_3 : (bs : List ℕ) → 2 < length bs → take 3 bs ≡ get_or bs 0 0 ∷ get_or bs 1 0 ∷ get_or bs 2 0 ∷ []
take_3 [] h = absurd (omega arith)
take_3 (a ∷ []) h = absurd (omega arith)
take_3 (a ∷ (b ∷ [])) h = absurd (omega arith)
take_3 (a ∷ (b ∷ (c ∷ bs))) h = refl

take_4 : (bs : List ℕ) → 3 < length bs → take 4 bs ≡ get_or bs 0 0 ∷ get_or bs 1 0 ∷ get_or bs 2 0 ∷ get_or bs 3 0 ∷ []
take_4 [] h = absurd (omega arith)
take_4 (a ∷ []) h = absurd (omega arith)
take_4 (a ∷ (b ∷ [])) h = absurd (omega arith)
take_4 (a ∷ (b ∷ (c ∷ []))) h = absurd (omega arith)
take_4 (a ∷ (b ∷ (c ∷ (d ∷ bs)))) h = refl

-- ---- format byte, length and content, with the fewest length bytes

module _ (frame : List ℕ) (at : ℕ) (f : Format) (k n : ℕ) (bytes : (i : ℕ) → get_or frame i 0 < 256) (first : get_or frame at 0 ≡ code_of f * 4 + k)
    (short : k ≡ length_size n) (within : k < length frame - at) (value : length_at k frame (at + 1) ≡ n) where
  head_of : Sized n → take (1 + k) (drop at frame) ≡ head_bytes f n
  head_of (one a z b) =
      let e : k ≡ 1 = short ∙ z in
      let v : get_or frame (at + 1) 0 ≡ n = rw e at value in
      let l = length-drop at frame in
      let d0 : get_or (drop at frame) 0 0 ≡ get_or frame at 0 = get_or-drop at frame 0 0 ∙ ap (λ i. get_or frame i 0) (add-zero at) in
      let d1 = get_or-drop at frame 1 0 in
      let t = take_2 (drop at frame) (omega arith) in
      let g : get_or frame at 0 ≡ code_of f * 4 + length_size n = omega arith in
      ap (λ m. take (1 + m) (drop at frame)) e ∙ (cc)
  head_of (two a a' z b) =
      let e : k ≡ 2 = short ∙ z in
      let v : get_or frame (at + 1) 0 * 256 + get_or frame (at + 1 + 1) 0 ≡ n = rw e at value in
      let l = length-drop at frame in
      let d0 : get_or (drop at frame) 0 0 ≡ get_or frame at 0 = get_or-drop at frame 0 0 ∙ ap (λ i. get_or frame i 0) (add-zero at) in
      let s2 : at + 2 ≡ at + 1 + 1 = omega arith in
      let b2 = bytes (at + 1 + 1) in
      let d1 : get_or (drop at frame) 1 0 ≡ n / 256 = get_or-drop at frame 1 0 ∙ omega arith in
      let d2 : get_or (drop at frame) 2 0 ≡ n % 256 = get_or-drop at frame 2 0 ∙ (ap (λ i. get_or frame i 0) s2 ∙ omega arith) in
      let t = take_3 (drop at frame) (omega arith) in
      let g : get_or frame at 0 ≡ code_of f * 4 + length_size n = omega arith in
      ap (λ m. take (1 + m) (drop at frame)) e ∙ (cc)
  head_of (three a z b) =
      let e : k ≡ 3 = short ∙ z in
      let v : get_or frame (at + 1) 0 * 65536 + get_or frame (at + 1 + 1) 0 * 256 + get_or frame (at + 1 + 2) 0 ≡ n = rw e at value in
      let l = length-drop at frame in
      let d0 : get_or (drop at frame) 0 0 ≡ get_or frame at 0 = get_or-drop at frame 0 0 ∙ ap (λ i. get_or frame i 0) (add-zero at) in
      let s2 : at + 2 ≡ at + 1 + 1 = omega arith in
      let s3 : at + 3 ≡ at + 1 + 2 = omega arith in
      let b2 = bytes (at + 1 + 1) in
      let b3 = bytes (at + 1 + 2) in
      let d1 : get_or (drop at frame) 1 0 ≡ n / 65536 = get_or-drop at frame 1 0 ∙ omega arith in
      let d2 : get_or (drop at frame) 2 0 ≡ n / 256 % 256 = get_or-drop at frame 2 0 ∙ (ap (λ i. get_or frame i 0) s2 ∙ omega arith) in
      let d3 : get_or (drop at frame) 3 0 ≡ n % 256 = get_or-drop at frame 3 0 ∙ (ap (λ i. get_or frame i 0) s3 ∙ omega arith) in
      let t = take_4 (drop at frame) (omega arith) in
      let g : get_or frame at 0 ≡ code_of f * 4 + length_size n = omega arith in
      ap (λ m. take (1 + m) (drop at frame)) e ∙ (cc)

  -- with the m bytes after them
  item_of : (m : ℕ) (content : List ℕ) → take m (drop (at + 1 + k) frame) ≡ content → length content ≡ m → Holds frame at (item_bytes f n content)
  item_of m content cut long =
      let L = length_item f n content in
      let s : at + length (item_bytes f n content) - at ≡ 1 + k + m = omega arith in
      let d : drop (1 + k) (drop at frame) ≡ drop (at + 1 + k) frame = drop-drop (1 + k) at frame ∙ ap (λ i. drop i frame) (let q : at + (1 + k) ≡ at + 1 + k = omega arith in q) in
      ap (λ i. take i (drop at frame)) s
      ∙ (take-add (1 + k) m (drop at frame)
      ∙ (ap (λ x. x ++ take m (drop (1 + k) (drop at frame))) (head_of (sized n))
      ∙ ap (λ x. head_bytes f n ++ x) (ap (take m) d ∙ cut)))

abbrev Back : List ℕ → ℕ → Reading → Type 0
Back frame at r = (Holds frame at (item_bytes r.format r.size r.content)) × (r.next ≡ at + length (item_bytes r.format r.size r.content))

-- an item that is read with the fewest length bytes is in the frame as it would be written, and ends at the next place
writes_back : (frame : List ℕ) (at : ℕ) (r : Reading) → ((i : ℕ) → get_or frame i 0 < 256) → item_at frame at ≡ Ok r → get_or frame at 0 % 4 ≡ length_size r.size → Back frame at r
writes_back frame at r bytes h short =
    let b = get_or frame at 0 in
    let k = b % 4 in
    let begin = at + 1 + k in
    let n = length_at k frame (at + 1) in
    let p = not_err (leb (length frame) at) PastEnd _ r h in
    let q = not_err (eqb k 0) NoLength _ r p.1 in
    let g = format_ok frame at k (format_of (b / 4)) r q.1 in
    let f = g.0 in
    let code = found_in (b / 4) every_format f g.1 in
    let first : b ≡ code_of f * 4 + k = omega arith in
    let w = not_err (leb (length frame - at) k) PastEnd _ r g.2 in
    let within : k < length frame - at = leb-false (length frame - at) k w.0 in
    elim (cases_Bool (is_list f)) [
      | inl e ↦
          let same = same_reading (reading f begin n [] begin) r (sym (cond-true (is_list f) _ _ e) ∙ w.1) in
          let s : k ≡ length_size n = short ∙ ap (λ x. length_size x.size) (sym same) in
          let L = length_item f n [] in
          subst (Back frame at) same (item_of frame at f k n bytes first s within refl 0 [] refl refl, omega arith)
      | inr e ↦
          let c = not_err (ltb (length frame - begin) n) PastEnd _ r (sym (cond-false (is_list f) _ _ e) ∙ w.1) in
          let content = between begin (begin + n) frame in
          let same = judged_ok f begin n content (content_fault f content) r c.1 in
          let s : k ≡ length_size n = short ∙ ap (λ x. length_size x.size) (sym same) in
          let room : n ≤ length frame - begin = ltb-false (length frame - begin) n c.0 in
          let m : begin + n - begin ≡ n = omega arith in
          let cut : take n (drop begin frame) ≡ content = ap (λ x. take x (drop begin frame)) (sym m) in
          let d = length-drop begin frame in
          let long : length content ≡ n = ap length (sym cut) ∙ (length-take n (drop begin frame) ∙ omega arith) in
          let L = length_item f n content in
          subst (Back frame at) same (item_of frame at f k n bytes first s within refl n content cut long, omega arith)
    ]

-- so it is of what the reader answered
pub shortest_back : (frame : List ℕ) (at : ℕ) (r : Result Item Fault) → ((i : ℕ) → get_or frame i 0 < 256) → seen r ≡ item_at frame at → ShortestBack frame at r
shortest_back frame at (Ok i) bytes e = λ short. (writes_back frame at (reading i.format i.begin i.length i.content.now i.next) bytes (sym e) short).0
shortest_back frame at (Err fault) bytes e = tt
