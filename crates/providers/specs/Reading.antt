-- A provider as it is sent, held to the ranges of its fields in their order.
use Rattle.std.specs.Prelude.{cond, not, Ok, Err, Result}
use Rattle.fields.specs.Ranges.{nonzero, within}
use Rattle.providers.specs.declared.fault.Fault.{Fault}
use Rattle.providers.specs.declared.fault.Fault.TheVariants.{Range}
use Rattle.providers.specs.declared.fault.Field.TheVariants.{Member, Agreements, Default}
use Rattle.providers.specs.declared.provider.Provider.{Provider}
use Rattle.providers.specs.declared.provider.ProviderFields.{ProviderFields}

abbrev pub read : ProviderFields → Result Provider Fault
read f =
    cond (not (within 1 250 f.member)) (Err (Range Member))
    (cond (not (within 0 255 f.agreements)) (Err (Range Agreements))
    (cond (not (within 0 255 f.default)) (Err (Range Default))
    (Ok (record { member = f.member; agreements = f.agreements; default = nonzero f.default }))))
