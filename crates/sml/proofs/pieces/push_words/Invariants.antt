use Rattle.std.proofs.Common.{◌≡◌, ◌++◌, take, map, string_bytes}
use Rattle.std.specs.List.{flat_map}
use Rattle.secs.proofs.Words.{word_of}
use Rattle.sml.specs.Texts.{word_text}
use Rattle.sml.proofs.pieces.push_words.Given as goal

abbrev pub invariant-loop-word : goal.invariant-loop-word
invariant-loop-word l = string_bytes l.text ≡ string_bytes l.initial.text ++ flat_map (word_text l.format) (map word_of (take l.word-index l.words))
