use Rattle.std.proofs.Common.{refl}
use Rattle.std.specs.Fmt.{digits}
use Rattle.euro.proofs.Digits.{value_of_text}
use Rattle.euro.proofs.written.text_is_the_amount.Goals as goal

pub returns-clause-examples : goal.returns-clause-examples
unfolding digits
returns-clause-examples c = refl

pub returns-clause-digits : goal.returns-clause-digits
returns-clause-digits c = value_of_text
