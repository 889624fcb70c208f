use Rattle.std.proofs.Common.{◌≡◌, ℕ, eqb, ltb, cond, Some, None, Option, sym, ap, ◌∙◌, inl, inr, rules, tests, arith}
use Rattle.std.proofs.lemmas.Grind.{common_steps}
use Rattle.std.specs.List.{position_or_len, slice_get}
use Rattle.std.proofs.lemmas.Bool.{cond-true, cond-false, cases_Bool, ltb-false}
use Rattle.std.proofs.lemmas.Option.{slice_get_past}
use Rattle.std.proofs.lemmas.List.Folds.{find_at}
use Rattle.std.proofs.lemmas.Iterator.{YieldsList-from_slice}
use Rattle.std.proofs.lemmas.Iterator.Search.{position_from_yields_List}
use Rattle.secs.specs.declared.format.Format.{Format}
use Rattle.secs.specs.Formats.{code_of, every_format, format_of, table}
use Rattle.secs.proofs.format.Format.from_code.Goals as goal

-- the format of a row of the table
abbrev row : Option ℕ → Option Format
row None = None
row (Some place) = slice_get every_format place

-- the first row that has a code, if one has it
abbrev place_of : ℕ → ℕ
place_of code = position_or_len (λ f. eqb (code_of f) code) every_format

abbrev found : ℕ → Option ℕ
found code = cond (ltb (place_of code) 7) (Some (place_of code)) None

row_found : (code : ℕ) → row (found code) ≡ format_of code
row_found code =
    let i = place_of code in
    let f = find_at (λ f. eqb (code_of f) code) every_format in
    elim (cases_Bool (ltb i 7)) [
      | inl e ↦ ap row (cond-true (ltb i 7) _ _ e) ∙ sym f
      | inr e ↦ ap row (cond-false (ltb i 7) _ _ e) ∙ sym (f ∙ slice_get_past every_format i (ltb-false i 7 e))
    ]

pub returns-in_err-place : goal.returns-in_err-place
returns-in_err-place c =
    let code = c.args.code in
    let e = position_from_yields_List (λ l. eqb l.0 code) _ _ c.position.result c.position.ensures.ran (YieldsList-from_slice table cc) (λ x b q k. search (rules, tests)) in
    let none : c.position.result ≡ None = cc in
    let answer : c.from_residual.result ≡ None = cc in
    answer ∙ (ap row (sym none ∙ e) ∙ row_found code)

pub returns : goal.returns
returns c =
    let code = c.args.code in
    let e = position_from_yields_List (λ l. eqb l.0 code) _ _ c.position.result c.position.ensures.ran (YieldsList-from_slice table cc) (λ x b q k. search (rules, tests)) in
    let some : c.position.result ≡ Some c.in_ok-place.place = cc in
    let answer : c.copied.result ≡ slice_get every_format c.in_ok-place.place = grind (arith, common_steps) in
    answer ∙ (ap row (sym some ∙ e) ∙ row_found code)
