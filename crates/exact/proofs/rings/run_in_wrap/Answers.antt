use Rattle.std.proofs.Common.{◌%◌, ◌^◌, refl, ◌∙◌}
use Rattle.scalar.specs.Modular.{wrap, wraps}
use Rattle.scalar.specs.declared.modular.Wrap.{Wrap}
use Rattle.exact.specs.Values.{code}
use Rattle.exact.proofs.Solving.{solved}
use Rattle.exact.proofs.rings.run_in_wrap.Goals as goal

pub returns : goal.returns
returns c =
    let ok = c.requires in
    solved (λ (s : Wrap). wrap s.0) wraps (λ v. record { 0 = code (2 ^ 64) v }) (λ m. m.number) (λ s. s.0 % 2 ^ 64) c.args.task _ _ _ _ _ (λ s. refl)
    (c.run_in_ring.auto.after ∙ ok.after) (c.run_in_ring.auto.before ∙ ok.before)
    c.run_in_ring.ensures.ran c.run_in_ring.ensures.after c.run_in_ring.ensures.before
