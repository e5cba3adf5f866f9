-- `root_bits` gives the bits of the nearest f64, by `proofs/Shifted.antt`. Assumes nothing.
use Rattle.sqrt.proofs.Shifted.{root_bits_lem}
use Rattle.sqrt.proofs.parts.root_bits.Goals as goal

pub returns : goal.returns
returns c =
    let x = c.parts-x.result in
    root_bits_lem c.args.bits x.q x.e c.root54.result c.parts-x.ensures c.root54.ensures c.requires.1
