-- Laws, in reading order.
-- Parts of lent words lie apart.
pub mod Parts
-- What each case of a request leaves.
pub mod Requests
-- A step judged, and a card opened.
pub mod Judging
pub mod OpenedCards
