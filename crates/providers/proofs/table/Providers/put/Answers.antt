use Rattle.std.proofs.Common.{◌≡◌, Ok, Err, Result, OnErr, sym, subst, ◌∙◌}
use mathlib.Core.HLevel.{is_prop→PathP}
use Rattle.std.proofs.Props.{props}
use Rattle.std.proofs.lemmas.Bool.{cond_both}
use Rattle.ordered.proofs.Finds.{place_misses}
use Rattle.ordered.specs.Bounded.{items}
use Rattle.providers.proofs.Numbered.{all_inserted, all_removed}
use Rattle.providers.proofs.Stands.{insertion_stands, removal_stands}
use Rattle.providers.specs.Held.{held}
use Rattle.providers.specs.Members.{DefaultsAreNumbered, MembersStandInOrderAndOnce, by_member, has_member}
use Rattle.providers.specs.declared.table.Providers.{Providers}
use Rattle.providers.proofs.table.Providers.put.Goals as goal

-- the value is its list
same_value : (a b : Providers) → a.list ≡ b.list → a ≡ b
same_value a b e = λ i. record {
  list = e i;
  order = is_prop→PathP (λ j. MembersStandInOrderAndOnce (items (e j))) (λ j. hlevel props) a.order b.order i;
  named = is_prop→PathP (λ j. DefaultsAreNumbered (items (e j))) (λ j. hlevel props) a.named b.named i;
}

on_err : {T E P : Type 0} (r : Result T E) → P → OnErr r P
on_err (Ok x) h = tt
on_err (Err e) h = h

pub invariant_of-self : goal.invariant_of-self
invariant_of-self c =
    let ps = c.args.self.now in
    record {
      order = subst MembersStandInOrderAndOnce (sym c.remove.ensures.after) (removal_stands (held ps) ps.order _);
      named = subst DefaultsAreNumbered (sym c.remove.ensures.after) (all_removed _ (held ps) _ ps.named);
    }

pub invariant_of-self-in-None-false : goal.invariant_of-self-in-None-false
invariant_of-self-in-None-false c =
    let ps = held c.args.self.now in
    let p = c.args.provider in
    let s = c.args.self.now.order in
    let n = c.args.self.now.named in
    let new = place_misses (has_member p.member) ps (sym c.find.ensures ∙ c.in-None-false.is-0) in
    record {
      order = subst MembersStandInOrderAndOnce (sym c.insert.ensures.after)
          (cond_both _ _ _ MembersStandInOrderAndOnce (λ _. insertion_stands ps s p new) (λ _. s));
      named = subst DefaultsAreNumbered (sym c.insert.ensures.after)
          (cond_both _ _ _ DefaultsAreNumbered (λ _. all_inserted _ (by_member tt) p ps c.requires n) (λ _. n));
    }

pub returns-in_err-insert-in-None-false-clause-refused : goal.returns-in_err-insert-in-None-false-clause-refused
returns-in_err-insert-in-None-false-clause-refused c =
    on_err c.from_residual.result (same_value _ c.args.self.now c.in_err-insert-in-None-false.ensures.refused)
