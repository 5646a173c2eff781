use Rattle.std.proofs.Common.{◌≡◌, drop}
use Rattle.std.specs.List.{list_any, list_all}
use Rattle.p3_formula.specs.Forms.{truth}
use Rattle.p3_formula.proofs.evaluation.+eval.Given as goal

-- the parts that are left decide
abbrev pub invariant-all_hold-loop-part : goal.invariant-all_hold-loop-part
invariant-all_hold-loop-part l = list_all (truth l.state) (drop l.part-index l.parts) ≡ list_all (truth l.state) l.parts

abbrev pub invariant-some_holds-loop-part : goal.invariant-some_holds-loop-part
invariant-some_holds-loop-part l = list_any (truth l.state) (drop l.part-index l.parts) ≡ list_any (truth l.state) l.parts
