use Rattle.std.proofs.Common.{◌≡◌, take}
use Rattle.asm_texts.specs.Texts.{words_text}
use Rattle.asm_texts.proofs.words.words_text.Given as goal

abbrev pub invariant-words : goal.invariant-words
invariant-words l = l.text.items ≡ words_text (take l.word-index l.words)
