-- The list that the providers stand for.
use Rattle.std.specs.Prelude.{List}
use Rattle.ordered.specs.Bounded.{items}
use Rattle.providers.specs.declared.provider.Provider.{Provider}
use Rattle.providers.specs.declared.table.Providers.{Providers}

abbrev pub held : Providers → List Provider
held ps = items ps.list
