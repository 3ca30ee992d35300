use Rattle.std.proofs.Common.{take_at, drop, length-take-le, length-drop, arith, sym, ◌∙◌}
use Rattle.access.proofs.ListLaws.{whole}
use Rattle.access.proofs.list.fronted.Goals as goal

pub slice_bounds-copy_from_slice-end : goal.slice_bounds-copy_from_slice-end
slice_bounds-copy_from_slice-end c = sym (length-take-le 64 c.args.block.now (omega (arith, c.told-block)))

pub copy_from_slice-requires : goal.copy_from_slice-requires
copy_from_slice-requires c =
    length-take-le 64 c.args.block.now (omega (arith, c.told-block))
    ∙ sym (length-take-le 64 (drop 16 c.args.block.now) (simp length-drop (omega (arith, c.told-block))))

pub returns : goal.returns
returns c =
    take_at c.copy_from_slice.new.self _ 64 (c.copy_from_slice.ensures.len ∙ length-take-le 64 c.args.block.now (omega (arith, c.told-block)))
    ∙ c.copy_from_slice.ensures.after ∙ whole c.args.block.now c.told-block
