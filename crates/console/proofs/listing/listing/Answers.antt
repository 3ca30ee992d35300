use Rattle.streams.specs.Output.{Prints}
use Rattle.console.proofs.TalkLaws.{reads_lines}
use Rattle.console.proofs.listing.listing.Goals as goal

pub returns : goal.returns
returns g c =
    let first = c.fetch-next.ensures in
    let second = c.fetch-next-2.ensures in
    let what = c.operation_line-named.ensures in
    reads_lines c.opened.result
    (λ text. Prints (g.W.Write.contents c.args.sink.now) c.args.waiting.now text (g.W.Write.contents c.opened.new.sink) c.opened.new.waiting)
    c.opened.new.buf c.args.asked (record { at_once = first.at_once; read = first.read }) c.line_of.ensures c.port_line-port.ensures
    (record { at_once = second.at_once; read = second.read }) c.line_of-2.ensures what.line_value what.args_after c.opened.ensures
