use Rattle.console.proofs.AheadLaws.{went_ahead, printed_ahead}
use Rattle.console.proofs.ahead.ahead.Goals as goal

pub returns-clause-ahead : goal.returns-clause-ahead
returns-clause-ahead g c =
    went_ahead _ _ c.run_in-ran.result c.run_in-ran.new.words c.run_in-ran.new.t c.read_ahead-count.ensures.count c.read_ahead-count.ensures.replies c.first.ensures.fits
    c.run_in-ran.ensures.lends c.run_in-ran.ensures.shown c.read_ahead-count.ensures.places c.behind_used.ensures

pub returns-clause-printed : goal.returns-clause-printed
returns-clause-printed g c =
    rw (← printed_ahead c.args.from c.args.buf.now c.run_in-ran.result c.run_in-ran.new.words c.run_in-ran.new.t c.read_ahead-count.ensures.count c.read_ahead-count.ensures.replies c.first.ensures.fits
    c.run_in-ran.ensures.lends c.run_in-ran.ensures.shown) c.in_ok-print_lines.ensures
