use Rattle.std.proofs.Common.{◌≡◌, ◌++◌, map, take, string_bytes, ap, ◌∙◌, arith}
use Rattle.std.specs.List.{flat_map}
use Rattle.std.proofs.lemmas.List.{take_all}
use Rattle.secs.proofs.Words.{word_of, chunks_are_words}
use Rattle.sml.specs.Texts.{word_text}
use Rattle.sml.proofs.pieces.push_words.Goals as goal

pub returns : goal.returns
returns c =
    let xs = c.args.content.now in
    let words = c.as_chunks.result.0.now in
    let all : take c.loop-word.word-index words ≡ words = take_all _ words (omega arith) in
    c.loop-word.invariant
    ∙ ap (λ ns. string_bytes c.args.text.now ++ flat_map (word_text c.args.format) ns) (ap (map word_of) (all ∙ c.as_chunks.ensures.front) ∙ chunks_are_words xs)
