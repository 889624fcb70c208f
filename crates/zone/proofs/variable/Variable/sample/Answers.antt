use Rattle.std.proofs.Common.{◌≡◌, to_z, of_z, w32, Ok, ap, ◌∙◌, sym, subst, rules}
use lib.Signed.{le_z}
use Rattle.zone.specs.Variables.{AllOrdered, moved_by, sample_after, whole_value}
use Rattle.zone.specs.Zones.{bands_after}
use Rattle.zone.specs.declared.variable.Variable.TheVariants.{Whole, Real}
use Rattle.zone.proofs.Orders.{sample_ordered}
use Rattle.zone.proofs.variable.Variable.sample.Goals as goal

pub returns-in_ok-try_from-in-Whole : goal.returns-in_ok-try_from-in-Whole
returns-in_ok-try_from-in-Whole c =
    let x = c.in_ok-try_from-in-Whole.field-0 in
    let bands = c.in-Whole.bands.places in
    let v : to_z w32 (of_z w32 x) ≡ x = search rules in
    let w : whole_value c.args.sample ≡ Ok x = search rules in
    let e : Whole c.sample.new.self ≡ sample_after c.args.self.now c.args.sample =
    ap (λ p. Whole (record { places = p }))
    (c.sample.ensures.after ∙ ap (λ y. bands_after le_z y bands) v ∙ sym (ap (λ r. moved_by le_z r bands) w))
    ∙ sym (ap (λ s. sample_after s c.args.sample) c.in-Whole.is) in
    record {
      answer = search rules;
      after = e;
      ordered = λ o. subst AllOrdered (sym e) (sample_ordered c.args.self.now c.args.sample o);
    }

pub returns-in_ok-try_from-in-Real : goal.returns-in_ok-try_from-in-Real
returns-in_ok-try_from-in-Real c =
    let e : Real c.sample-in-Real.new.self ≡ sample_after c.args.self.now c.args.sample = search rules in
    record {
      answer = search rules;
      after = e;
      ordered = λ o. subst AllOrdered (sym e) (sample_ordered c.args.self.now c.args.sample o);
    }
