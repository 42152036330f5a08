use Rattle.std.proofs.Common.{◌<◌, length, sym, ap, ◌∙◌, subst, rules, arith}
use Rattle.syntax.specs.declared.counts.Counts.{Counts}
use Rattle.syntax.specs.Lawful.{GroundLiteral, ground_literal}
use Rattle.books.specs.Layers.{laid, laid_few}
use Rattle.books.specs.Suppositions.{own_of, units}
use Rattle.books.proofs.Filter.{ground_is}
use Rattle.books.proofs.Supposing.{units_more}
use Rattle.books.proofs.supposition.Supposition.suppose.Goals as goal

pub returns-clause-done : goal.returns-clause-done
returns-clause-done g c =
    let s = c.args.self.now in
    let b = s.below in
    let P : Counts → Type 0 = λ q. GroundLiteral q c.args.l in
    let law = subst P c.counts.ensures (c.is_ground_literal.ensures.0 c.if-not-is_ground_literal.false) in
    let test = ap (λ q. ground_literal q c.args.l) (sym c.counts.ensures) ∙ ground_is c.counts.result c.args.l _ c.is_ground_literal.ensures ∙ c.if-not-is_ground_literal.false in
    let few = laid_few (g.B.Book.clauses b) (units (g.B.Book.counts b) (own_of s)) (g.B.Book.few b) in
    let room : length (laid (g.B.Book.clauses b) (units (g.B.Book.counts b) (own_of s))) < 65535 = omega (arith, c.len.ensures) in
    let more = units_more (g.B.Book.clauses b) (g.B.Book.counts b) (own_of s) c.push.new.self.items c.args.l in
    search rules
