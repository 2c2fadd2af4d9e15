mod FoundTickets
mod FoundBonds
mod FoundRows
mod QueryCauses
