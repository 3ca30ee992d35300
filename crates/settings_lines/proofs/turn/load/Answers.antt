use Rattle.std.proofs.Common.{◌∙◌, Bool, sym, ap}
use Rattle.settings_lines.specs.declared.turn.Turn.{Turn}
use Rattle.settings_lines.proofs.LoadLaws.{load_bad, load_full, load_more, load_none}
use Rattle.settings_lines.proofs.turn.load.Goals as goal

pub returns-in_default-hex : goal.returns-in_default-hex
returns-in_default-hex c =
    sym c.loop-start.invariant
    ∙ load_bad c.loop-start.kept c.args.line.now c.loop-start.at c.in-Some.start c.in-Some.end c.word.result c.word.ensures.line_value c.word.ensures.inside c.in-Some.is (c.hex.ensures ∙ c.in_default-hex.is)
    ∙ ap (λ (t : Turn). (t, c.loop-start.kept)) c.unread.ensures

pub returns-then-not-add : goal.returns-then-not-add
returns-then-not-add c =
    sym c.loop-start.invariant
    ∙ load_full c.loop-start.kept c.args.line.now c.loop-start.at c.in-Some.start c.in-Some.end c.word.result c.word.ensures.line_value c.word.ensures.inside c.in-Some.is c.in-Some-hex.value c.add.new.self (c.hex.ensures ∙ c.in-Some-hex.is) (c.add.ensures ∙ ap (λ (b : Bool). (b, c.add.new.self)) c.if-not-add.true)
    ∙ ap (λ (t : Turn). (t, c.add.new.self)) c.unread-then-not-add.ensures

pub loop-start-preserved : goal.loop-start-preserved
loop-start-preserved c =
    sym (load_more c.loop-start.kept c.args.line.now c.loop-start.at c.in-Some.start c.in-Some.end c.word.result c.word.ensures.line_value c.word.ensures.inside c.in-Some.is c.in-Some-hex.value c.add.new.self (c.hex.ensures ∙ c.in-Some-hex.is) (c.add.ensures ∙ ap (λ (b : Bool). (b, c.add.new.self)) c.if-not-add.false))
    ∙ c.loop-start.invariant

pub returns : goal.returns
returns c = sym c.loop-start.invariant ∙ load_none c.loop-start.kept c.args.line.now c.loop-start.at c.word.result c.word.ensures.line_value c.in_default.is ∙ ap (λ (t : Turn). (t, c.loop-start.kept)) c.passed.ensures
