use Rattle.std.proofs.Common.{refl}
use Rattle.sc_values.proofs.ShortLemmas.{pieces-whole}
use Rattle.sc_values.proofs.short.copy_of.Goals as goal

pub returns : goal.returns
returns c =
    pieces-whole c.args.bytes.now c.copy_from_slice.new.self c.copy_from_slice-2.new.self c.copy_from_slice-3.new.self _ c.told-bytes refl
    c.copy_from_slice.ensures.after c.copy_from_slice-2.ensures.after c.copy_from_slice-3.ensures.after
