-- What of an order comes before its number in priority.
use Rattle.book.specs.declared.resting.Resting.{Resting}
use Rattle.book.specs.declared.sign.Sign.{Sign}

abbrev pub sign_of : Resting → Sign
sign_of o = record { limit = o.limit; visible = o.visible }

-- an order with that alone
abbrev pub like : Sign → Resting
like s = record { number = 0; member = 0; limit = s.limit; volume = 0; visible = s.visible }
