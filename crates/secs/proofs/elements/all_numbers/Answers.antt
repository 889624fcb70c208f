use Rattle.std.proofs.Common.{◌/◌, not, length, sym, ap, ◌∙◌, rules, tests}
use Rattle.std.specs.Simd.{first_chunks}
use Rattle.std.specs.List.{list_all}
use Rattle.std.proofs.lemmas.Iterator.{YieldsList-from_slice}
use Rattle.std.proofs.lemmas.Iterator.Search.{all_from_yields_List}
use Rattle.std.proofs.lemmas.List.Folds.{list_all-map}
use Rattle.secs.specs.Elements.{is_nan}
use Rattle.secs.proofs.Words.{word_of, chunks_are_words}
use Rattle.secs.proofs.elements.all_numbers.Goals as goal

pub returns : goal.returns
returns c =
    let xs = c.args.content.now in
    let chunks = first_chunks 4 (length xs / 4) xs in
    all_from_yields_List (λ w. not (is_nan (word_of w))) _ _ c.all.result c.all.ensures.ran (YieldsList-from_slice chunks cc) (λ x b q k. search (rules, tests))
    ∙ (sym (list_all-map (λ n. not (is_nan n)) word_of chunks) ∙ ap (list_all (λ n. not (is_nan n))) (chunks_are_words xs))
