-- Document 02, Req 06: what an exported call returns and writes, from the words that the library's call promises. A refusal is written too. If the
-- answer's slice does not have 256 bytes, the call returns 38 before anything else and writes nothing. Assumes nothing.
-- The manual, docs/INTERFACE.md: "Calls from C".
use Rattle.std.specs.Prelude.{ℕ, cond, List, eqb, length, get_or}
use Rattle.refusals.specs.Table.{number_of}
use Rattle.refusals.specs.declared.Refusal.TheVariants.{AnswerLength}
use Rattle.sfdu_headers.specs.Words.{Word}
use Rattle.answers.specs.Numbers.{numbers_of, plain}
use Rattle.host.specs.Answer.{answer_size, answer_bytes}

-- The returned number: the first number of the answer.
abbrev pub returned : List Word → ℕ
returned words = get_or (numbers_of words) 0 0

-- A call that changes nothing: the returned number, and the answer's slice after the call.
unfoldable pub exported : (words : List Word) (answer : List ℕ) → ℕ × List ℕ
exported words answer = cond (eqb (length answer) answer_size) (returned words, answer_bytes (numbers_of words)) (number_of AnswerLength, answer)

-- A call that changes what it is lent, which is a slice or a pair of slices. `read` turns the promised numbers into words. The result is the returned
-- number, the answer's slice, and what is lent, after the call.
unfoldable pub exported_as : {Lent : Type 0} (read : List ℕ → List Word) (promised : Lent → List ℕ × Lent) (answer : List ℕ) (lent : Lent)
    → ℕ × List ℕ × Lent
exported_as read promised answer lent =
    let words = read (promised lent).0 in
    cond (eqb (length answer) answer_size) (returned words, answer_bytes (numbers_of words), (promised lent).1) (number_of AnswerLength, answer, lent)

-- The same for a call whose words have no none.
abbrev pub exported_on : {Lent : Type 0} (promised : Lent → List ℕ × Lent) (answer : List ℕ) (lent : Lent) → ℕ × List ℕ × Lent
exported_on promised answer lent = exported_as plain promised answer lent
