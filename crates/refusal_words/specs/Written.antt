-- A refusal's text, written for a host. Assumes nothing.
-- The manual, docs/INTERFACE.md: "Calls from C".
use Rattle.std.specs.Prelude.{ℕ, ◌+◌, List, [], ◌∷◌, ◌++◌, leb, length, drop, Result}
use Rattle.refusals.specs.declared.Refusal.{Refusal}
use Rattle.refusals.specs.Judge.{◌when◌, judge}
use Rattle.refusals.specs.Words.{answer_words, one_word}
use Rattle.refusal_words.specs.Texts.{text_of}

-- The words of the answer: 0 and how many bytes the text has, or the refusal's number.
abbrev pub words_of : Result ℕ Refusal → List ℕ
words_of answer = answer_words one_word answer

-- The text and a zero byte at the start of the slice, and then what stood there; 61 where it is too short for both, and nothing is written.
unfoldable pub write_text : (number : ℕ) (out : List ℕ) → List ℕ × List ℕ
write_text number out =
    let text = text_of number in
    judge (λ n. (n ∷ [], out)) ((61 when leb (length out) (length text)) ∷ [])
    (0 ∷ length text ∷ [], text ++ 0 ∷ drop (length text + 1) out)
