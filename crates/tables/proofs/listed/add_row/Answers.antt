use Rattle.tables.proofs.Rows.{addition}
use Rattle.tables.proofs.listed.add_row.Goals as goal

pub returns : goal.returns
returns c =
    let a = addition c.args.rows.now c.args.len (record { atom = c.args.atom; sign = c.args.sign }) c.requires.free c.requires.near c.requires.each c.requires.lies in
    record { each = a.1; told = a.0 }
