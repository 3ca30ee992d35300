use Rattle.std.proofs.Common.{List, ℕ, ◌++◌, ap, ◌∙◌, arith}
use Rattle.text.proofs.PutLaws.{written_front}
use Rattle.streams.proofs.OutputLaws.{kept_none, room}
use Rattle.streams.proofs.output.Waiting.keep.Goals as goal

pub invariant_of-self : goal.invariant_of-self
invariant_of-self c = omega (arith, room _ _ _ _ _ c.in-Some.ensures, c.self.told)

pub returns-in-Some-clause-kept : goal.returns-in-Some-clause-kept
returns-in-Some-clause-kept c = λ _. written_front _ _ _ _ _ c.in-Some.ensures ∙ ap (λ (l : List ℕ). l ++ c.args.bytes.now) c.self.view_is

pub returns-in-None-clause-full : goal.returns-in-None-clause-full
returns-in-None-clause-full c = λ _. kept_none _ _ _ _ c.in-None.ensures ∙ c.self.view_is
