use Rattle.std.proofs.Common.{sym, ap, ◌∙◌}
use Rattle.std.specs.Prelude.{ℕ, Option}
use Rattle.std.proofs.lemmas.List.{length-replicate}
use Rattle.std.specs.Option.{option_map}
use Rattle.conversation.specs.Conversation.{answer_as}
use Rattle.conversation.specs.declared.conversation.Answer as code
use Rattle.border.specs.Border.{no_answer}
use Rattle.border.proofs.Laws.{answers_some, answers_none}
use Rattle.border.proofs.mansruoy_answer.Goals as goal

pub returns-in-Some-answer : goal.returns-in-Some-answer
returns-in-Some-answer c =
    c.answer_words.ensures
    ∙ sym (answers_some c.args.c (c.taken.ensures ∙ c.in-Some.is) (c.answer.ensures _ (length-replicate _ 0) ∙ ap (λ (x : Option code.Answer). option_map answer_as x) c.in-Some-answer.is))

pub returns-in-None : goal.returns-in-None
returns-in-None c =
    c.no_answer-in-None.ensures
    ∙ ap (λ (n : ℕ). no_answer n c.in-Some.of.actions c.in-Some.of.micros) (sym c.number-in-None.ensures)
    ∙ sym (answers_none c.args.c (c.taken.ensures ∙ c.in-Some.is) (c.answer.ensures _ (length-replicate _ 0) ∙ ap (λ (x : Option code.Answer). option_map answer_as x) c.in-None.is))
