-- The plain book's two lists.
use Rattle.booktrial.specs.Calls.{Lists}
use Rattle.booktrial.specs.declared.plain.Plain.{Plain}

abbrev pub plain_lists : Plain → Lists
plain_lists p = record { bids = p.bids.orders.items; asks = p.asks.orders.items }
