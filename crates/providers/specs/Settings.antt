-- What a setting answers, and what it makes of the list.
use Rattle.std.specs.Prelude.{ℕ, Bool, cond, ◌&&◌, ◌||◌, List, is_none, Some, None, Ok, Err, count_by, Option, Result, ◌==◌, slice_set}
use Rattle.std.specs.List.{position_from, remove}
use Rattle.fields.specs.Refusals.{and_then, changed}
use Rattle.ordered.specs.Bounded.{has_room}
use Rattle.ordered.specs.Order.{inserted}
use Rattle.providers.specs.Lookups.{agreed, executors}
use Rattle.providers.specs.Members.{by_member, has_member}
use Rattle.providers.specs.Reading.{read}
use Rattle.providers.specs.declared.fault.Fault.{Fault}
use Rattle.providers.specs.declared.fault.Fault.TheVariants.{Full}
use Rattle.providers.specs.declared.provider.Provider.{Provider}
use Rattle.providers.specs.declared.provider.ProviderFields.{ProviderFields}

-- how many providers can stand
abbrev pub capacity : ℕ
capacity = 64

-- no agreement and no default
abbrev pub says_nothing : Provider → Bool
says_nothing p = p.agreements == 0 && is_none p.default

-- how many executors a mask agrees with
abbrev pub agreements_in : ℕ → ℕ
agreements_in mask = count_by (agreed mask) executors

-- the first place of a member
abbrev pub placed : ℕ → List Provider → Option ℕ
placed m = position_from (has_member m) 0

-- a provider that is not there is entered, unless the list is full
abbrev pub entered : Provider → List Provider → List Provider
entered p ps = cond (has_room capacity ps) (inserted (by_member tt) p ps) ps

-- one that stands is replaced; one that says nothing does not stand
abbrev pub put_at : Option ℕ → Provider → List Provider → List Provider
put_at (Some i) p ps = cond (says_nothing p) (remove ps i) (slice_set ps i p)
put_at None p ps = cond (says_nothing p) ps (entered p ps)

-- answered with the number of its agreements
abbrev pub puts_at : Option ℕ → Provider → List Provider → Result ℕ Fault
puts_at (Some i) p ps = Ok (agreements_in p.agreements)
puts_at None p ps = cond (says_nothing p || has_room capacity ps) (Ok (agreements_in p.agreements)) (Err Full)

abbrev pub put : Provider → List Provider → List Provider
put p ps = put_at (placed p.member ps) p ps

abbrev pub puts : Provider → List Provider → Result ℕ Fault
puts p ps = puts_at (placed p.member ps) p ps

abbrev pub settled : ProviderFields → List Provider → List Provider
settled f ps = changed (read f) (λ p. put p ps) ps

abbrev pub sets : ProviderFields → List Provider → Result ℕ Fault
sets f ps = and_then (read f) (λ p. puts p ps)
